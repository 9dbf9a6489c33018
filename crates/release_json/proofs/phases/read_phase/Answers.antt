use Rattle.release_json.proofs.PhaseLaws.{phase_exact}
use Rattle.release_json.proofs.phases.read_phase.Goals as goal

pub returns-clause-exact : goal.returns-clause-exact
returns-clause-exact c = phase_exact c.args.text.now c.phase_of.result c.phase_of.ensures

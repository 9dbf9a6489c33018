use Rattle.std.proofs.Common.{subst}
use Rattle.candidate_files.specs.Candidates.{AreCandidatesIn}
use Rattle.commands.proofs.InputLaws.{bad_record}
use Rattle.commands.proofs.inputs.candidates_in.Goals as goal

pub returns-in-Ok-clause-state : goal.returns-in-Ok-clause-state
returns-in-Ok-clause-state c = subst (AreCandidatesIn c.args.tables.now c.args.plan.now c.args.text.now) c.in-Ok.is c.in_ok-candidates.ensures.value

pub returns-in-Err-clause-state : goal.returns-in-Err-clause-state
returns-in-Err-clause-state c =
    bad_record c.args.tables.now c.args.plan.now c.args.name.now c.args.text.now c.in-Err.field-0.line c.in-Err.field-0.why c.bad_input.result
    (subst (AreCandidatesIn c.args.tables.now c.args.plan.now c.args.text.now) c.in-Err.is c.in_ok-candidates.ensures.value) c.bad_input.ensures

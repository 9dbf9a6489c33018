use Rattle.std.proofs.Common.{arith}
use Rattle.release_json.proofs.FindingLaws.{finding_exact}
use Rattle.release_json.proofs.findings.read_finding.Goals as goal

pub returns-clause-exact : goal.returns-clause-exact
returns-clause-exact c = finding_exact 1_000_000_000_000_000 c.args.text.now c.finding_within.result (omega arith) c.finding_within.ensures

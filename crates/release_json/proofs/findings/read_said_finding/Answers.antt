use Rattle.std.proofs.Common.{arith}
use Rattle.release_json.proofs.FindingLaws.{finding_exact}
use Rattle.release_json.proofs.findings.read_said_finding.Goals as goal

pub returns-clause-exact : goal.returns-clause-exact
returns-clause-exact c = finding_exact 18_446_744_073_709_551_615 c.args.text.now c.finding_within.result (omega arith) c.finding_within.ensures

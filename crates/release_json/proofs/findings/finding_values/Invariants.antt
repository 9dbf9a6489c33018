use Rattle.std.proofs.Common.{◌≡◌, ◌++◌, map, drop}
use Rattle.serde_json.specs.View.{view}
use Rattle.release_json.specs.Findings.{finding_data}
use Rattle.release_json.proofs.findings.finding_values.Given as goal

abbrev pub invariant-loop-finding : goal.invariant-loop-finding
invariant-loop-finding l = map view l.values.items ++ map finding_data (drop l.finding-index l.findings) ≡ map finding_data l.findings

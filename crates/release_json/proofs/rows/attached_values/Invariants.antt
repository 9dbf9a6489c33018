use Rattle.std.proofs.Common.{◌≡◌, ◌++◌, map, drop}
use Rattle.serde_json.specs.View.{view}
use Rattle.release_json.specs.Rows.{attached_data}
use Rattle.release_json.proofs.rows.attached_values.Given as goal

abbrev pub invariant-loop-report : goal.invariant-loop-report
invariant-loop-report l = map view l.values.items ++ map attached_data (drop l.report-index l.attached) ≡ map attached_data l.attached

use Rattle.std.proofs.Common.{◌≡◌, ◌++◌, drop}
use Rattle.row_changes.specs.Changes.{alert_rows}
use Rattle.row_changes.proofs.changes.push_alerts.Given as goal

abbrev pub invariant-loop-alert : goal.invariant-loop-alert
invariant-loop-alert l = l.changes.items ++ alert_rows (drop l.alert-index l.alerts) ≡ l.fn.changes.items ++ alert_rows l.alerts

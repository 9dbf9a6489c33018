use Rattle.std.proofs.Common.{◌≡◌, ◌++◌}
use Rattle.std.specs.List.{filter_map}
use Rattle.std.specs.Vec.Iter.{into_iter_items}
use Rattle.row_changes.specs.Held.{alert_of}
use Rattle.row_changes.proofs.telling.alerts_told.Given as goal

abbrev pub invariant-loop-alert : goal.invariant-loop-alert
invariant-loop-alert l = l.alerts.items ++ filter_map (alert_of l.releases.list) (into_iter_items l.alert-iterator) ≡ filter_map (alert_of l.releases.list) l.fn.kept.items

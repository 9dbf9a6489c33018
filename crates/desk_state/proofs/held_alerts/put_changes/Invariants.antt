use Rattle.std.proofs.Common.{◌≡◌, ◌≤◌, length}
use Rattle.std.specs.List.{AllByRecursion}
use Rattle.std.specs.Vec.Iter.{into_iter_items, into_iter_len}
use Rattle.desk_state.specs.Events.{put_changes}
use Rattle.desk_state.specs.Install.{IsOwn}
use Rattle.desk_state.proofs.held_alerts.put_changes.Given as goal

abbrev pub invariant-loop-change : goal.invariant-loop-change
invariant-loop-change l = record {
  room : length (into_iter_items l.change-iterator) ≤ l.alerts.room;
  own : AllByRecursion IsOwn (into_iter_items l.change-iterator);
  changes : put_changes (into_iter_items l.change-iterator) l.alerts.list ≡ put_changes l.fn.changes.items l.fn.alerts.list;
  len : into_iter_len l.change-iterator ≡ length (into_iter_items l.change-iterator);
}

use Rattle.std.proofs.Common.{◌≡◌, ◌+◌, ◌≤◌, length}
use Rattle.std.specs.Prelude.{vec_len, IsTrue}
use Rattle.std.specs.Vec.{vec_capacity}
use Rattle.std.specs.Vec.Iter.{into_iter_items, into_iter_len}
use Rattle.keeper.specs.Order.{rising, list_changed_by}
use Rattle.keeper.proofs.order.make_each.Given as goal

abbrev pub invariant-loop-change : goal.invariant-loop-change
invariant-loop-change l = record {
  room : vec_len l.rows + length (into_iter_items l.change-iterator) ≤ vec_capacity l.rows;
  items : list_changed_by (into_iter_items l.change-iterator) l.rows.items ≡ list_changed_by l.fn.changes.items l.fn.rows.items;
  in_order : IsTrue (rising l.rows.items);
  len : into_iter_len l.change-iterator ≡ length (into_iter_items l.change-iterator);
}

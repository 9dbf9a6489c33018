use Rattle.std.proofs.Common.{◌≡◌}
use Rattle.std.specs.Vec.Iter.{into_iter_items}
use Rattle.row_changes.specs.Parting.{kinds_of, no_kinds, with_records}
use Rattle.row_changes.proofs.parting.parts_of.Given as goal

abbrev pub invariant-loop-found : goal.invariant-loop-found
invariant-loop-found l = with_records (into_iter_items l.found-iterator) (kinds_of l.parts) ≡ with_records l.fn.records.items no_kinds

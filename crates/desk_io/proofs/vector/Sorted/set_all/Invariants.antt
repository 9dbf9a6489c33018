use Rattle.std.proofs.Common.{◌≡◌}
use Rattle.desk_io.proofs.SortedEdits.{set_first}
use Rattle.desk_io.proofs.vector.Sorted.set_all.Given as goal

abbrev pub invariant-loop-place : goal.invariant-loop-place
invariant-loop-place g l = l.self-inside.held.items ≡ set_first l.value l.place l.initial.self-inside.held.items

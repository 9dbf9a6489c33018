use Rattle.std.proofs.Common.{◌≡◌, ◌++◌, drop}
use Rattle.ops_tables.specs.Order.{places_from}
use Rattle.ops_tables.proofs.order.places.Given as goal

abbrev pub invariant-loop-place : goal.invariant-loop-place
invariant-loop-place g l = l.places.items ++ places_from l.place (drop l.place l.rows) ≡ places_from 0 l.rows

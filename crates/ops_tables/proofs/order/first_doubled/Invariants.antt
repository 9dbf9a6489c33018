use Rattle.std.proofs.Common.{[], take}
use Rattle.ops_tables.specs.Keys.{AreNew}
use Rattle.ops_tables.proofs.order.first_doubled.Given as goal

abbrev pub invariant-loop-place : goal.invariant-loop-place
invariant-loop-place g l = AreNew g.R.Row.is_same_key [] (take l.place l.rows)

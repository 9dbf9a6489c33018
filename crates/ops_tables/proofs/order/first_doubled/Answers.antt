use Rattle.std.proofs.Common.{sym}
use Rattle.ops_tables.proofs.Orders.{more_new, first_at}
use Rattle.ops_tables.proofs.order.first_doubled.Goals as goal

pub returns-then-is_doubled : goal.returns-then-is_doubled
returns-then-is_doubled g c =
    first_at g.R.Row.is_same_key c.args.rows.now c.loop-place.place c.loop-place-test.true c.loop-place.invariant (sym c.if-is_doubled.ensures)

pub loop-place-preserved : goal.loop-place-preserved
loop-place-preserved g c =
    more_new g.R.Row.is_same_key c.args.rows.now c.loop-place.place c.loop-place-test.true c.loop-place.invariant (sym c.if-is_doubled.ensures)

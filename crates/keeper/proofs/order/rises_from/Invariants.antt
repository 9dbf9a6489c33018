use Rattle.std.proofs.Common.{◌≡◌, drop}
use Rattle.keeper.specs.Order.{rises_from}
use Rattle.keeper.proofs.order.rises_from.Given as goal

abbrev pub invariant-loop-row : goal.invariant-loop-row
invariant-loop-row l = rises_from l.last (drop l.row-index l.rest) ≡ rises_from l.first l.rest

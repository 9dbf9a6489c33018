use Rattle.std.proofs.Common.{length}
use Rattle.keeper.specs.Order.{AreApart}
use Rattle.desk_acceptance.proofs.memory.are_apart.Given as goal

abbrev pub invariant-loop-rest : goal.invariant-loop-rest
invariant-loop-rest l = AreApart l.rest → AreApart l.rows

abbrev pub decreases-loop-rest : goal.decreases-loop-rest
decreases-loop-rest l = length l.rest

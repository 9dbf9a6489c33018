use Rattle.std.proofs.Common.{length}
use Rattle.std.specs.List.{AllByRecursion}
use Rattle.plan.specs.Check.{HasMoments}
use Rattle.small_airline.proofs.plans.have_moments.Given as goal

abbrev pub invariant-loop-left : goal.invariant-loop-left
invariant-loop-left l = AllByRecursion HasMoments l.left → AllByRecursion HasMoments l.legs

abbrev pub decreases-loop-left : goal.decreases-loop-left
decreases-loop-left l = length l.left

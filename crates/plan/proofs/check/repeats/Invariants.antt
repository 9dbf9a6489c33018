use Rattle.std.proofs.Common.{◌≡◌, length}
use Rattle.plan.specs.Check.{repeats}
use Rattle.plan.proofs.check.repeats.Given as goal

abbrev pub invariant-loop-left : goal.invariant-loop-left
invariant-loop-left l = repeats l.left ≡ repeats l.alternates

abbrev pub decreases-loop-left : goal.decreases-loop-left
decreases-loop-left l = length l.left

use Rattle.std.proofs.Common.{◌≡◌, drop}
use Rattle.plan.specs.Change.{are_same_alternates}
use Rattle.plan.proofs.change.are_same_alternates.Given as goal

abbrev pub invariant-loop-a : goal.invariant-loop-a
invariant-loop-a l = are_same_alternates (drop l.a-index l.one) l.left ≡ are_same_alternates l.one l.two

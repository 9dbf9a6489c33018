use Rattle.std.proofs.Common.{◌≡◌, ◌+◌, drop}
use Rattle.plan.specs.Change.{first_changed}
use Rattle.plan.proofs.change.first_changed.Given as goal

abbrev pub invariant-loop-i : goal.invariant-loop-i
invariant-loop-i l = first_changed (l.i + 1) (drop l.i l.flown) l.left ≡ first_changed 1 l.flown l.legs

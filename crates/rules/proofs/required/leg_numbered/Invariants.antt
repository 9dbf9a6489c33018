use Rattle.std.proofs.Common.{◌≡◌, ◌+◌, drop}
use Rattle.rules.specs.Judgement.{leg_numbered}
use Rattle.rules.proofs.required.leg_numbered.Given as goal

abbrev pub invariant-loop-i : goal.invariant-loop-i
invariant-loop-i l = leg_numbered l.number (l.i + 1) (drop l.i l.legs) ≡ leg_numbered l.number 1 l.legs

use Rattle.std.proofs.Common.{◌≡◌, ◌+◌, drop}
use Rattle.rules.specs.Touches.{legs_name}
use Rattle.rules.proofs.touches.legs_name.Given as goal

abbrev pub invariant-loop-i : goal.invariant-loop-i
invariant-loop-i l = legs_name l.phase l.station (l.i + 1) (drop l.i l.legs) ≡ legs_name l.phase l.station 1 l.legs

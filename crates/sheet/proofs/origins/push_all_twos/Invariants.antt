use Rattle.std.proofs.Common.{◌≡◌, ◌++◌, drop, map}
use Rattle.sheet.specs.Origins.{seen, twos}
use Rattle.sheet.proofs.origins.push_all_twos.Given as goal

abbrev pub invariant-loop-i : goal.invariant-loop-i
invariant-loop-i l =
    l.origins.items ++ twos (map seen (drop l.i l.flown)) ≡ l.initial.origins.items ++ twos (map seen l.flown)

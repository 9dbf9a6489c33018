use Rattle.std.proofs.Common.{◌≡◌, ◌++◌, drop, map}
use Rattle.sheet.specs.Origins.{seen, twos_with}
use Rattle.sheet.proofs.origins.push_twos.Given as goal

abbrev pub invariant-loop-second : goal.invariant-loop-second
invariant-loop-second l =
    l.origins.items ++ twos_with (seen l.first) (map seen (drop l.second-index l.later)) ≡ l.initial.origins.items ++ twos_with (seen l.first) (map seen l.later)

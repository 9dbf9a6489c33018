use Rattle.std.proofs.Common.{◌≡◌, ◌++◌, drop, map}
use Rattle.sheet.specs.Origins.{seen, of_raised}
use Rattle.sheet.proofs.origins.of_raised.Given as goal

abbrev pub invariant-loop-it : goal.invariant-loop-it
invariant-loop-it l =
    l.origins.items ++ of_raised l.limits (map seen (drop l.it-index l.flown)) ≡ of_raised l.limits (map seen l.flown)

use Rattle.std.proofs.Common.{◌≡◌, ◌++◌, drop, map}
use Rattle.sheet.specs.Origins.{seen, of_landing}
use Rattle.sheet.proofs.origins.of_landing.Given as goal

abbrev pub invariant-loop-it : goal.invariant-loop-it
invariant-loop-it l =
    l.origins.items ++ of_landing (map seen (drop l.it-index l.flown)) ≡ of_landing (map seen l.flown)

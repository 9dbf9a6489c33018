use Rattle.std.proofs.Common.{◌≡◌, ◌++◌, drop, map}
use Rattle.sheet.specs.Origins.{seen, ones}
use Rattle.sheet.proofs.origins.ones.Given as goal

abbrev pub invariant-loop-it : goal.invariant-loop-it
invariant-loop-it l =
    l.origins.items ++ ones (map seen (drop l.it-index l.flown)) ≡ ones (map seen l.flown)

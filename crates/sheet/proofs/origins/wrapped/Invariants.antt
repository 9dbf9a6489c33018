use Rattle.std.proofs.Common.{◌≡◌, ◌++◌, drop}
use Rattle.sheet.specs.Origins.{wrapped}
use Rattle.sheet.proofs.origins.wrapped.Given as goal

abbrev pub invariant-loop-it : goal.invariant-loop-it
invariant-loop-it l =
    l.all.items ++ wrapped (drop l.it-index l.origins) ≡ wrapped l.origins

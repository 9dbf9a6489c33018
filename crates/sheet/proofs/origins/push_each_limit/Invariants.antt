use Rattle.std.proofs.Common.{◌≡◌, ◌++◌, drop, map}
use Rattle.sheet.specs.Origins.{raised_to}
use Rattle.sheet.proofs.origins.push_each_limit.Given as goal

abbrev pub invariant-loop-limit : goal.invariant-loop-limit
invariant-loop-limit l =
    l.origins.items ++ map (raised_to l.approach) (drop l.limit-index l.limits) ≡ l.initial.origins.items ++ map (raised_to l.approach) l.limits

use Rattle.std.proofs.Common.{◌≡◌, ◌++◌, drop, map}
use Rattle.airport_minima.specs.Raised.{raised_to}
use Rattle.airport_minima.proofs.increase.push_each.Given as goal

abbrev pub invariant-loop-it : goal.invariant-loop-it
invariant-loop-it l =
    l.pairs.items ++ map (λ a. raised_to l.landing a) (drop l.it-index l.alternate) ≡ l.initial.pairs.items ++ map (λ a. raised_to l.landing a) l.alternate

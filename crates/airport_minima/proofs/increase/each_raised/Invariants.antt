use Rattle.std.proofs.Common.{◌≡◌, ◌++◌, drop}
use Rattle.airport_minima.specs.Raised.{each_raised}
use Rattle.airport_minima.proofs.increase.each_raised.Given as goal

abbrev pub invariant-loop-it : goal.invariant-loop-it
invariant-loop-it l = l.pairs.items ++ each_raised (drop l.it-index l.landing) l.alternate ≡ each_raised l.landing l.alternate

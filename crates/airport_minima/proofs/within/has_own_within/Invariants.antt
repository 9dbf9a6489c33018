use Rattle.std.proofs.Common.{◌≡◌, drop, map}
use Rattle.airport_minima.specs.Minima.{own_minima}
use Rattle.airport_minima.specs.Within.{has_within}
use Rattle.airport_minima.proofs.within.has_own_within.Given as goal

abbrev pub invariant-loop-place : goal.invariant-loop-place
invariant-loop-place l = has_within l.bounds (map (λ r. own_minima r) (drop l.place l.rows)) ≡ has_within l.bounds (map (λ r. own_minima r) l.rows)

use Rattle.std.proofs.Common.{◌≡◌, drop, map, filter}
use Rattle.airport_minima.specs.Minima.{is_usable, single}
use Rattle.airport_minima.specs.Within.{has_within}
use Rattle.airport_minima.proofs.within.has_single_within.Given as goal

abbrev pub invariant-loop-place : goal.invariant-loop-place
invariant-loop-place l =
    has_within l.bounds (map (λ a. single l.addend a) (filter (λ a. is_usable l.kind l.lost a) (drop l.place l.approaches)))
    ≡ has_within l.bounds (map (λ a. single l.addend a) (filter (λ a. is_usable l.kind l.lost a) l.approaches))

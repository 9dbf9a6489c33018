use Rattle.std.proofs.Common.{◌≡◌, drop, filter}
use Rattle.std.specs.Option.{option_copied}
use Rattle.airport_minima.specs.Minima.{is_usable, doubles}
use Rattle.airport_minima.specs.Within.{has_within}
use Rattle.airport_minima.proofs.DoubleWithin.{left_after}
use Rattle.airport_minima.proofs.within.has_double_within.Given as goal

abbrev pub invariant-loop-place : goal.invariant-loop-place
invariant-loop-place l =
    left_after l.bounds l.addend (option_copied l.first) (filter (λ a. is_usable l.kind l.lost a) (drop l.place l.approaches))
    ≡ has_within l.bounds (doubles l.addend (filter (λ a. is_usable l.kind l.lost a) l.approaches))

use Rattle.std.proofs.Common.{◌≡◌, ◌++◌, drop, map, filter, All}
use Rattle.ops_tables.specs.Limits.{FitsApproach}
use Rattle.airport_minima.specs.Minima.{is_usable}
use Rattle.airport_minima.proofs.usable.usable.Given as goal

abbrev pub invariant-loop-place : goal.invariant-loop-place
invariant-loop-place l =
    (map (λ a. a.now) l.usable.items ++ filter (λ a. is_usable l.kind l.lost a) (drop l.place l.approaches) ≡ filter (λ a. is_usable l.kind l.lost a) l.approaches)
    × All (λ a. FitsApproach a.now) l.usable.items

use Rattle.std.proofs.Common.{◌≡◌, ◌++◌, drop, map}
use Rattle.desk_io.specs.Pair.{AreWithin}
use Rattle.airport_minima.specs.Minima.{own_minima}
use Rattle.airport_minima.proofs.derived.all_own_minima.Given as goal

abbrev pub invariant-loop-place : goal.invariant-loop-place
invariant-loop-place l =
    (l.pairs.items ++ map (λ r. own_minima r) (drop l.place l.rows) ≡ map (λ r. own_minima r) l.rows)
    × AreWithin 40_000 32_186_880 l.pairs.items

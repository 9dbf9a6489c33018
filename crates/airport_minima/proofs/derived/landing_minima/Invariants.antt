use Rattle.std.proofs.Common.{◌≡◌, ◌++◌, drop, map}
use Rattle.desk_io.specs.Pair.{AreWithin}
use Rattle.airport_minima.specs.Minima.{minima_of}
use Rattle.airport_minima.proofs.derived.landing_minima.Given as goal

abbrev pub invariant-loop-approach : goal.invariant-loop-approach
invariant-loop-approach l =
    (l.pairs.items ++ map (λ a. minima_of a) (map (λ a. a.now) (drop l.approach-index l.usable)) ≡ map (λ a. minima_of a) (map (λ a. a.now) l.usable))
    × AreWithin 20_000 16_093_440 l.pairs.items

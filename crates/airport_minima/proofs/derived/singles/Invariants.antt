use Rattle.std.proofs.Common.{◌≡◌, ◌++◌, drop, map}
use Rattle.desk_io.specs.Pair.{AreWithin}
use Rattle.airport_minima.specs.Minima.{single}
use Rattle.airport_minima.proofs.derived.singles.Given as goal

abbrev pub invariant-loop-approach : goal.invariant-loop-approach
invariant-loop-approach l =
    (l.pairs.items ++ map (λ a. single l.addend a) (map (λ a. a.now) (drop l.approach-index l.usable)) ≡ map (λ a. single l.addend a) (map (λ a. a.now) l.usable))
    × AreWithin 40_000 32_186_880 l.pairs.items

use Rattle.std.proofs.Common.{◌≡◌, ◌++◌, drop, map}
use Rattle.desk_io.specs.Pair.{AreWithin}
use Rattle.airport_minima.specs.Minima.{doubles_with}
use Rattle.airport_minima.proofs.derived.push_doubles.Given as goal

abbrev pub invariant-loop-second : goal.invariant-loop-second
invariant-loop-second l =
    (l.pairs.items ++ doubles_with l.addend l.first (map (λ a. a.now) (drop l.second-index l.later))
    ≡ l.initial.pairs.items ++ doubles_with l.addend l.first (map (λ a. a.now) l.later))
    × AreWithin 40_000 32_186_880 l.pairs.items

use Rattle.std.proofs.Common.{◌≡◌, ◌++◌, drop, map}
use Rattle.desk_io.specs.Pair.{AreWithin}
use Rattle.airport_minima.specs.Minima.{doubles}
use Rattle.airport_minima.proofs.derived.push_all_doubles.Given as goal

abbrev pub invariant-loop-i : goal.invariant-loop-i
invariant-loop-i l =
    (l.pairs.items ++ doubles l.addend (map (λ a. a.now) (drop l.i l.usable)) ≡ l.initial.pairs.items ++ doubles l.addend (map (λ a. a.now) l.usable))
    × AreWithin 40_000 32_186_880 l.pairs.items

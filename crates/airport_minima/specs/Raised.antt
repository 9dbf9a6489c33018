-- Raising landing minima for a captain with few hours in the type (14 CFR 121.652).
use Rattle.std.specs.Prelude.{min, List, [], ◌∷◌, ◌++◌, map}
use Rattle.desk_io.specs.declared.pair.Pair.{Pair}
use Rattle.desk_io.specs.Pair.{higher}
use Rattle.desk_io.specs.Pair as pair

-- 100 feet and half a statute mile more
abbrev pub increased : Pair → Pair
increased landing = pair.raised (record { ceiling = 100; vis = 804_672 }) landing

-- 300 feet and one statute mile
abbrev pub least : Pair
least = record { ceiling = 300; vis = 1_609_344 }

-- the lower ceiling and the lower visibility of two minima
abbrev pub lower : Pair → Pair → Pair
lower a b = record { ceiling = min a.ceiling b.ceiling; vis = min a.vis b.vis }

-- the increase if the airport has no alternate minima
abbrev pub raised_freely : Pair → Pair
raised_freely landing = higher least (increased landing)

-- the increase up to the airport's alternate minima, but not below the landing minima
abbrev pub raised_to : Pair → Pair → Pair
raised_to landing alternate = higher least (higher landing (lower (increased landing) alternate))

-- the landing minima, raised, and limited by each of the alternate minima in turn
abbrev pub raised_by : List Pair → Pair → List Pair
raised_by [] landing = raised_freely landing ∷ []
raised_by (first ∷ others) landing = map (λ alternate. raised_to landing alternate) (first ∷ others)

abbrev pub each_raised : List Pair → List Pair → List Pair
each_raised [] alternate = []
each_raised (landing ∷ others) alternate = raised_by alternate landing ++ each_raised others alternate

-- the landing minima of a station, raised up to its alternate minima
unfoldable pub raised : List Pair → List Pair → List Pair
raised landing alternate = each_raised landing alternate

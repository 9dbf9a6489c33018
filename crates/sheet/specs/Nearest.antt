-- By how much the weather misses minima, and which of them is nearest.
use Rattle.std.specs.Prelude.{◌≡◌, ℕ, ◌+◌, ◌-◌, ◌≤◌, ◌==◌, nat_lt, Bool, false, ◌&&◌, ◌||◌, if◌then◌else◌, List, [], ◌∷◌, Option, None, Some}
use Rattle.std.specs.List.{slice_get}
use Rattle.codes.specs.declared.cond.Cond.{Cond}
use Rattle.desk_io.specs.declared.pair.Pair.{Pair}
use Rattle.sheet.specs.declared.nearest.Miss.{Miss}

-- what an element lacks to its minimum; an unknown element lacks all of it
abbrev pub lacks : Option ℕ → ℕ → ℕ
lacks None least = least
lacks (Some known) least = least - known

-- what the weather lacks to the minima of this number
abbrev pub miss_of : Cond → ℕ → Pair → Miss
miss_of weather number pair = record { number = number; ceiling = lacks weather.ceiling pair.ceiling; vis = lacks weather.vis pair.vis }

-- the first lacks fewer feet than the second, or as many and less visibility
abbrev pub is_less : Miss → Miss → Bool
is_less a b = nat_lt a.ceiling b.ceiling || (a.ceiling == b.ceiling && nat_lt a.vis b.vis)

-- the lesser of two misses; the first if neither is less
abbrev pub lesser_miss : Option Miss → Miss → Option Miss
lesser_miss None b = Some b
lesser_miss (Some a) b = if is_less b a then Some b else Some a

-- the least miss once more minima are read, of which the first has number n
abbrev pub nearest_from : Cond → Option Miss → ℕ → List Pair → Option Miss
nearest_from weather found n [] = found
nearest_from weather found n (pair ∷ pairs) = nearest_from weather (lesser_miss found (miss_of weather n pair)) (n + 1) pairs

-- the least miss of the minima, counted from 1
abbrev pub nearest_of : Cond → List Pair → Option Miss
nearest_of weather pairs = nearest_from weather None 1 pairs

-- nothing is lacking
abbrev pub is_nothing : Option Miss → Bool
is_nothing None = false
is_nothing (Some miss) = miss.ceiling == 0 && miss.vis == 0

-- what is known and what is lacking make the minimum; nothing is lacking to what is high enough, and all to the unknown
abbrev pub IsLacking : Option ℕ → ℕ → ℕ → Type 0
IsLacking None least lacking = lacking ≡ least
IsLacking (Some known) least lacking = (known ≤ least → known + lacking ≡ least) × (least ≤ known → lacking ≡ 0)

-- the miss is that of the minima of this number: what the weather lacks in each element
pub record IsMiss (weather : Cond) (number : ℕ) (pair : Pair) (miss : Miss) : Type 0 where
  pub numbered : miss.number ≡ number
  pub feet : IsLacking weather.ceiling pair.ceiling miss.ceiling
  pub millimetres : IsLacking weather.vis pair.vis miss.vis

-- the second lacks at least as many feet as the first, and, if as many, at least as much visibility
pub record IsNoLess (first second : Miss) : Type 0 where
  pub feet : first.ceiling ≤ second.ceiling
  pub millimetres : second.ceiling ≡ first.ceiling → first.vis ≤ second.vis

-- The miss is that of one of the minima, by its number, and none of them is missed by less.
pub record IsLeastMiss (weather : Cond) (pairs : List Pair) (miss : Miss) : Type 0 where
  pub place : ℕ
  pub pair : Pair
  pub stands : slice_get pairs place ≡ Some pair
  pub is : IsMiss weather (1 + place) pair miss
  pub none_is_less : (other : ℕ) (p : Pair) (m : Miss) → slice_get pairs other ≡ Some p → IsMiss weather (1 + other) p m
      → IsNoLess miss m

-- there is a least miss, unless there are no minima
abbrev pub IsNearest : Cond → List Pair → Option Miss → Type 0
IsNearest weather pairs None = pairs ≡ []
IsNearest weather pairs (Some miss) = IsLeastMiss weather pairs miss

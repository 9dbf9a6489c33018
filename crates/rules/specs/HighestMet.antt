-- The highest minima that weather meets, with which all others are compared.
use Rattle.std.specs.Prelude.{ℕ, ◌-◌, nat_le, Bool, false, if◌then◌else◌, List, Option, None, Some}
use Rattle.desk_time.specs.Digits.{◌>>=◌}
use Rattle.desk_io.specs.declared.pair.Pair.{Pair}
use Rattle.codes.specs.declared.cond.Cond.{Cond}
use Rattle.airport_minima.specs.declared.within.Bounds.{Bounds}
use Rattle.airport_minima.specs.Within.{has_within}

-- a margin of nothing
abbrev pub no_margin : Pair
no_margin = record { ceiling = 0; vis = 0 }

-- the value of an element; an unknown one counts as 0
abbrev pub at_least : Option ℕ → ℕ
at_least None = 0
at_least (Some known) = known

-- the highest minimum that the element reaches with the margin added
abbrev pub highest : Option ℕ → ℕ → Option ℕ
highest known margin = if nat_le margin (at_least known) then Some (at_least known - margin) else None

-- the highest minima that the weather meets with the margin added, if it meets any
abbrev pub highest_met : Cond → Pair → Option Bounds
highest_met weather margin =
    highest weather.ceiling margin.ceiling >>= λ ceiling. highest weather.vis margin.vis >>= λ vis. Some (record { ceiling = Some ceiling; vis = Some vis })

-- one of the pairs is within the highest minima that the weather meets
abbrev pub met_within : Option Bounds → List Pair → Bool
met_within None pairs = false
met_within (Some bounds) pairs = has_within bounds pairs

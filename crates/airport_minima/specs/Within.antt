-- Whether minima are at or below bounds, decided without a list of the minima.
use Rattle.std.specs.Prelude.{ℕ, ◌+◌, nat_le, Bool, true, false, ◌&&◌, List, if◌then◌else◌, Option, None, Some}
use Rattle.std.specs.List.{list_any}
use Rattle.desk_io.specs.declared.pair.Pair.{Pair}
use Rattle.desk_io.specs.Pair.{higher}
use Rattle.airport_minima.specs.Raised.{least, raised_freely}
use Rattle.airport_minima.specs.declared.within.Bounds.{Bounds}
use Rattle.airport_minima.specs.declared.within.Found.{Found}

-- the minimum is at or below the bound, or there is no bound
abbrev pub is_low : Option ℕ → ℕ → Bool
is_low None minimum = true
is_low (Some most) minimum = nat_le minimum most

-- the minima are at or below the bounds in both elements
abbrev pub is_within : Bounds → Pair → Bool
is_within bounds pair = is_low bounds.ceiling pair.ceiling && is_low bounds.vis pair.vis

-- one of the pairs is within the bounds
abbrev pub has_within : Bounds → List Pair → Bool
has_within bounds pairs = list_any (λ pair. is_within bounds pair) pairs

-- There are minima at all, with a ceiling within its bound, with such a visibility, and with both.
abbrev pub found_among : Bounds → List Pair → Found
found_among bounds pairs = record {
  any = has_within (record { ceiling = None; vis = None }) pairs;
  ceiling = has_within (record { ceiling = bounds.ceiling; vis = None }) pairs;
  vis = has_within (record { ceiling = None; vis = bounds.vis }) pairs;
  both = has_within bounds pairs;
}

-- one of the alternate minima is within the bounds in each element in which the raised minimum isn't
abbrev pub found_for : Found → Bool → Bool → Bool
found_for found true true = true
found_for found true false = found.vis
found_for found false true = found.ceiling
found_for found false false = found.both

-- the landing minima are within the bounds once they are raised up to one of the alternate minima
abbrev pub is_limited_within : Bounds → Found → Pair → Bool
is_limited_within bounds found landing =
    is_within bounds (higher least landing)
    && found_for found (is_low bounds.ceiling (landing.ceiling + 100)) (is_low bounds.vis (landing.vis + 804_672))

-- the landing minima are within the bounds once they are raised, given the alternate minima that were found
abbrev pub is_raised_within : Bounds → Found → Pair → Bool
is_raised_within bounds found landing =
    if found.any then is_limited_within bounds found landing else is_within bounds (raised_freely landing)

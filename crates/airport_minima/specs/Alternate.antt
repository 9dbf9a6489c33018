-- The alternate minima of an airport: its own, or those of its approaches plus the airline's addends (14 CFR
-- 121.625).
use Rattle.std.specs.Prelude.{◌≡◌, ℕ, ◌+◌, ◌*◌, ◌<◌, max, List, length, map, All, AllPairs, Contains}
use Rattle.desk_io.specs.Station.{Station}
use Rattle.desk_io.specs.declared.pair.Pair.{Pair}
use Rattle.ops_tables.specs.declared.rows.Settings.{Settings}
use Rattle.ops_tables.specs.declared.rows.Approach.{Approach}
use Rattle.ops_tables.specs.declared.rows.TypeRow.{TypeRow}
use Rattle.ops_tables.specs.Tables.{TableRows, alternates_of}
use Rattle.airport_minima.specs.Minima.{usable}

-- the minima of one approach plus the single addend
pub record IsByOne (settings : Settings) (approach : Approach) (pair : Pair) : Type 0 where
  pub ceiling : pair.ceiling ≡ approach.ceiling + settings.single_ceiling
  pub visibility : pair.vis ≡ approach.vis16 * 100_584 + settings.single_vis16 * 100_584

-- the higher minima of two approaches to different runways plus the double addend
pub record IsByTwo (settings : Settings) (first second : Approach) (pair : Pair) : Type 0 where
  pub apart : first.runway ≡ second.runway → ⊥
  pub ceiling : pair.ceiling ≡ max first.ceiling second.ceiling + settings.double_ceiling
  pub visibility : pair.vis ≡ max (first.vis16 * 100_584) (second.vis16 * 100_584) + settings.double_vis16 * 100_584

-- the minima come from one approach or from two
pub data IsGiven (settings : Settings) (approaches : List Approach) (pair : Pair) : Type 0 where
  ByOne : (a : Approach) → Contains approaches a → IsByOne settings a pair → IsGiven settings approaches pair
  ByTwo : (a b : Approach) → Contains approaches a → Contains approaches b → IsByTwo settings a b pair
      → IsGiven settings approaches pair

-- the minima are all those that come from one or two of the approaches, and no others
pub record AreGiven (settings : Settings) (approaches : List Approach) (pairs : List Pair) : Type 0 where
  pub only : All (IsGiven settings approaches) pairs
  pub by_one : All (λ a. (pair : Pair) → IsByOne settings a pair → Contains pairs pair) approaches
  pub by_two : AllPairs (λ a b. (pair : Pair) → IsByTwo settings a b pair → Contains pairs pair) approaches

-- If the airport has alternate minima of its own, they alone count. Otherwise the minima come from the approaches
-- that the type can fly.
pub record AreAlternateMinima (tables : TableRows) (kind : TypeRow) (station : Station) (lost : List (List ℕ))
    (pairs : List Pair) : Type 0 where
  pub its_own : 0 < length (alternates_of tables station)
      → pairs ≡ map (λ r. record { ceiling = r.ceiling; vis = r.vis16 * 100_584 }) (alternates_of tables station)
  pub of_approaches : length (alternates_of tables station) ≡ 0
      → AreGiven tables.settings (usable tables kind station lost) pairs

-- The least weather at the destination in which a flag flight needs no alternate (14 CFR 121.621(a)(1)).
use Rattle.std.specs.Prelude.{ℕ, ◌+◌, ◌*◌, nat_lt, min, max, if◌then◌else◌, List, [], ◌∷◌, Option, None, Some}
use Rattle.desk_io.specs.Station.{Station}
use Rattle.ops_tables.specs.declared.rows.Airport.{Airport}
use Rattle.ops_tables.specs.declared.rows.Approach.{Approach}
use Rattle.ops_tables.specs.declared.rows.TypeRow.{TypeRow}
use Rattle.ops_tables.specs.Tables.{TableRows, airport_of}
use Rattle.desk_io.specs.declared.pair.Pair.{Pair}
use Rattle.airport_minima.specs.declared.floors.Lowest.{Lowest}
use Rattle.airport_minima.specs.Minima.{usable, millimetres}

-- the lesser of the approach's values and those of the others
abbrev pub lower : Approach → Option Lowest → Lowest
lower approach None = record { height = approach.height; vis16 = approach.vis16 }
lower approach (Some others) = record { height = min approach.height others.height; vis16 = min approach.vis16 others.vis16 }

-- the least height and the least visibility of the approaches, if there are any
abbrev pub lowest_of : List Approach → Option Lowest
lowest_of [] = None
lowest_of (approach ∷ others) = Some (lower approach (lowest_of others))

-- 1,500 feet above the circling minimum; without circling 1,500 feet above the lowest height, but at least 2,000
abbrev pub floor_ceiling : ℕ → ℕ → ℕ
floor_ceiling circle height = if nat_lt 0 circle then circle + 1_500 else max (height + 1_500) 2_000

-- 2 statute miles more than the lowest visibility, but at least 3
abbrev pub floor_vis : ℕ → ℕ
floor_vis vis16 = max (millimetres vis16 + 2 * 1_609_344) (3 * 1_609_344)

abbrev pub floor_over : ℕ → Option Lowest → Option Pair
floor_over circle None = None
floor_over circle (Some lowest) = Some (record { ceiling = floor_ceiling circle lowest.height; vis = floor_vis lowest.vis16 })

abbrev pub circle_at : Option Airport → ℕ
circle_at None = 0
circle_at (Some airport) = airport.circle

-- the circling minimum of a station; 0 if the airline doesn't circle there
abbrev pub circle_of : TableRows → Station → ℕ
circle_of tables station = circle_at (airport_of tables station)

-- the least weather at the station, if the type can fly an approach there
unfoldable pub flag_floor : TableRows → TypeRow → Station → List (List ℕ) → Option Pair
flag_floor tables kind station lost = floor_over (circle_of tables station) (lowest_of (usable tables kind station lost))

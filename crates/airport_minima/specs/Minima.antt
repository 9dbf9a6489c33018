-- The minima of an airport for landing and as an alternate (14 CFR 121.613, 121.625).
use Rattle.std.specs.Prelude.{ℕ, ◌*◌, Bool, not, ◌&&◌, List, [], ◌∷◌, ◌++◌, map, filter}
use Rattle.std.specs.Str.{bytes_eq}
use Rattle.desk_io.specs.Station.{Station}
use Rattle.ops_tables.specs.declared.rows.Settings.{Settings}
use Rattle.ops_tables.specs.declared.rows.Approach.{Approach}
use Rattle.ops_tables.specs.declared.rows.AlternateRow.{AlternateRow}
use Rattle.ops_tables.specs.declared.rows.TypeRow.{TypeRow}
use Rattle.ops_tables.specs.Names.{has_name}
use Rattle.ops_tables.specs.Tables.{TableRows, approaches_of, alternates_of}
use Rattle.desk_io.specs.declared.pair.Pair.{Pair}
use Rattle.desk_io.specs.Pair.{raised, higher}

-- sixteenths of a statute mile in millimetres
abbrev pub millimetres : ℕ → ℕ
millimetres sixteenths = sixteenths * 100_584

-- the type can fly the approach: it has the capability for it and hasn't lost it
abbrev pub is_usable : TypeRow → List (List ℕ) → Approach → Bool
is_usable kind lost approach = has_name kind.capabilities approach.capability && not (has_name lost approach.capability)

-- the approaches of a station that the type can fly, in the order of the table
abbrev pub usable : TableRows → TypeRow → Station → List (List ℕ) → List Approach
usable tables kind station lost = filter (λ a. is_usable kind lost a) (approaches_of tables station)

-- the landing minima of an approach
abbrev pub minima_of : Approach → Pair
minima_of approach = record { ceiling = approach.ceiling; vis = millimetres approach.vis16 }

-- the landing minima of a station: those of each approach that the type can fly
unfoldable pub landing : TableRows → TypeRow → Station → List (List ℕ) → List Pair
landing tables kind station lost = map (λ a. minima_of a) (usable tables kind station lost)

-- the addend for the alternate minima of one approach
abbrev pub single_addend : Settings → Pair
single_addend settings = record { ceiling = settings.single_ceiling; vis = millimetres settings.single_vis16 }

-- the addend for the alternate minima of two approaches
abbrev pub double_addend : Settings → Pair
double_addend settings = record { ceiling = settings.double_ceiling; vis = millimetres settings.double_vis16 }

-- the minima of one approach plus the addend
abbrev pub single : Pair → Approach → Pair
single addend approach = raised addend (minima_of approach)

-- the higher ceiling and the higher visibility of two approaches plus the addend
abbrev pub double : Pair → Approach → Approach → Pair
double addend first second = raised addend (higher (minima_of first) (minima_of second))

-- the approaches lead to different runways
abbrev pub are_apart : Approach → Approach → Bool
are_apart first second = not (bytes_eq second.runway first.runway)

-- the minima of an approach with each later one to another runway
abbrev pub doubles_with : Pair → Approach → List Approach → List Pair
doubles_with addend first later = map (λ second. double addend first second) (filter (λ second. are_apart first second) later)

-- the minima of every two approaches to different runways
abbrev pub doubles : Pair → List Approach → List Pair
doubles addend [] = []
doubles addend (first ∷ later) = doubles_with addend first later ++ doubles addend later

-- the alternate minima from these approaches
abbrev pub derived : Settings → List Approach → List Pair
derived settings approaches = map (λ a. single (single_addend settings) a) approaches ++ doubles (double_addend settings) approaches

abbrev pub own_minima : AlternateRow → Pair
own_minima row = record { ceiling = row.ceiling; vis = millimetres row.vis16 }

-- the station's own alternate minima if it has any, otherwise these others
abbrev pub own_or : List AlternateRow → List Pair → List Pair
own_or [] others = others
own_or (row ∷ rows) others = map (λ r. own_minima r) (row ∷ rows)

-- the alternate minima of a station
unfoldable pub alternate_pairs : TableRows → TypeRow → Station → List (List ℕ) → List Pair
alternate_pairs tables kind station lost = own_or (alternates_of tables station) (derived tables.settings (usable tables kind station lost))

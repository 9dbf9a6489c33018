-- What each pair of minima stands for: an approach, a row of alternates.csv, one or two approaches with an addend, or
-- an approach that is raised for a captain with few hours.
use Rattle.std.specs.Prelude.{◌≡◌, ℕ, ◌+◌, ◌*◌, ◌<◌, ◌≤◌, Bool, if◌then◌else◌, List, [], ◌∷◌, ◌++◌, map, filter, Some}
use Rattle.std.specs.List.{slice_get}
use Rattle.desk_io.specs.Station.{Station}
use Rattle.desk_io.specs.declared.pair.Pair.{Pair}
use Rattle.ops_tables.specs.declared.rows.AlternateRow.{AlternateRow}
use Rattle.ops_tables.specs.declared.rows.Approach.{Approach}
use Rattle.ops_tables.specs.Tables.{approaches_of, alternates_of}
use Rattle.airport_minima.specs.Alternate.{IsByOne, IsByTwo}
use Rattle.airport_minima.specs.FewHours.{IsRaisedFreely, IsRaisedTo}
use Rattle.airport_minima.specs.Flown.{CanFly, IsLanding}
use Rattle.airport_minima.specs.Minima.{is_usable, are_apart}
use Rattle.rules.specs.Circumstances.{Case, alternate_at, has_few_hours}
use Rattle.sheet.specs.declared.lines.AlternateOrigin.{AlternateOrigin}
use Rattle.sheet.specs.declared.lines.AlternateOrigin.TheVariants.{Row, One, Two}
use Rattle.sheet.specs.declared.lines.Origin.{Origin}
use Rattle.sheet.specs.declared.lines.Origin.TheVariants as origin
use Rattle.sheet.specs.declared.origins.FlownApproach.{FlownApproach}

-- What the origins are

-- an approach of the station that the type can fly, by the number of its row among those of the station, from 1
pub record IsFlownRow (c : Case) (station : Station) (row : ℕ) (approach : Approach) : Type 0 where
  pub place : ℕ
  pub numbered : row ≡ 1 + place
  pub stands : slice_get (approaches_of c.grounds.tables station) place ≡ Some approach
  pub can_fly : CanFly c.aircraft c.limits.lost approach

-- Alternate minima are those of a row of the station in alternates.csv. Without such rows they are those of one
-- approach plus the single addend, or of two approaches to different runways plus the double addend.
pub data IsAlternateFrom (c : Case) (station : Station) (pair : Pair) : AlternateOrigin → Type 0 where
  by_row : (place : ℕ) (row : AlternateRow) → slice_get (alternates_of c.grounds.tables station) place ≡ Some row
      → pair.ceiling ≡ row.ceiling → pair.vis ≡ row.vis16 * 100_584
      → IsAlternateFrom c station pair (Row (1 + place))
  by_one : (row : ℕ) (approach : Approach) → alternates_of c.grounds.tables station ≡ []
      → IsFlownRow c station row approach
      → IsByOne c.grounds.tables.settings approach pair → IsAlternateFrom c station pair (One row)
  by_two : (first second : ℕ) (one other : Approach) → alternates_of c.grounds.tables station ≡ []
      → IsFlownRow c station first one → IsFlownRow c station second other
      → IsByTwo c.grounds.tables.settings one other pair → IsAlternateFrom c station pair (Two first second)

-- the landing minima of an approach
pub data IsLandingFrom (c : Case) (station : Station) (pair : Pair) : Origin → Type 0 where
  by_approach : (row : ℕ) (approach : Approach) → IsFlownRow c station row approach → IsLanding approach pair
      → IsLandingFrom c station pair (origin.Approach row)

-- alternate minima
pub data IsListedFrom (c : Case) (station : Station) (pair : Pair) : Origin → Type 0 where
  as_alternate : (from : AlternateOrigin) → IsAlternateFrom c station pair from
      → IsListedFrom c station pair (origin.Alternate from)

-- The landing minima of an approach as 14 CFR 121.652 raises them: up to the alternate minima of the station if it has
-- some.
pub data IsRaisedFrom (c : Case) (station : Station) (pair : Pair) : Origin → Type 0 where
  freely : (row : ℕ) (landing : Pair) → IsLandingFrom c station landing (origin.Approach row)
      → alternate_at c station ≡ [] → IsRaisedFreely landing pair
      → IsRaisedFrom c station pair (origin.RaisedFreely row)
  up_to : (row : ℕ) (landing alternate : Pair) (limit : AlternateOrigin)
      → IsLandingFrom c station landing (origin.Approach row) → IsAlternateFrom c station alternate limit
      → IsRaisedTo landing alternate pair → IsRaisedFrom c station pair (origin.RaisedTo row limit)

-- each pair of minima has its origin at the same place
abbrev pub EachFrom : {O : Type 0} → (Pair → O → Type 0) → List Pair → List O → Type 0
EachFrom Of [] [] = Unit {0}
EachFrom Of [] (o ∷ os) = ⊥
EachFrom Of (p ∷ ps) [] = ⊥
EachFrom Of (p ∷ ps) (o ∷ os) = Of p o × EachFrom Of ps os

abbrev pub AreLandingFrom : Case → Station → List Pair → List Origin → Type 0
AreLandingFrom c station minima origins = EachFrom (IsLandingFrom c station) minima origins

abbrev pub AreListedFrom : Case → Station → List Pair → List Origin → Type 0
AreListedFrom c station minima origins = EachFrom (IsListedFrom c station) minima origins

-- the landing minima that hold for the captain: raised ones if he has fewer than 100 hours in the type
pub record AreArrivalFrom (c : Case) (station : Station) (minima : List Pair) (origins : List Origin) : Type 0 where
  pub experienced : 100 ≤ c.hours → AreLandingFrom c station minima origins
  pub few_hours : c.hours < 100 → EachFrom (IsRaisedFrom c station) minima origins

-- The lists in the order of the minima

-- an approach with the number of its row
pub record Flown : Type 0 where
  pub row : ℕ
  pub approach : Approach

abbrev pub seen : FlownApproach → Flown
seen f = record { row = f.row; approach = f.approach.now }

-- the approaches that can be flown, if the first has this number
abbrev pub flown_from : (Approach → Bool) → ℕ → List Approach → List Flown
flown_from can n [] = []
flown_from can n (a ∷ rest) =
    if can a then record { row = n; approach = a } ∷ flown_from can (n + 1) rest else flown_from can (n + 1) rest

-- the approaches of a station that the type can fly
abbrev pub flown : Case → Station → List Flown
flown c station = flown_from (is_usable c.aircraft c.limits.lost) 1 (approaches_of c.grounds.tables station)

abbrev pub of_landing : List Flown → List Origin
of_landing flown = map (λ (f : Flown). origin.Approach f.row) flown

-- the rows of a list, if the first has this number
abbrev pub of_rows : ℕ → List AlternateRow → List AlternateOrigin
of_rows n [] = []
of_rows n (row ∷ rest) = Row n ∷ of_rows (n + 1) rest

abbrev pub ones : List Flown → List AlternateOrigin
ones flown = map (λ (f : Flown). One f.row) flown

-- an approach with each later one to another runway
abbrev pub twos_with : Flown → List Flown → List AlternateOrigin
twos_with first later =
    map (λ (second : Flown). Two first.row second.row) (filter (λ second. are_apart first.approach second.approach) later)

-- every two approaches to different runways
abbrev pub twos : List Flown → List AlternateOrigin
twos [] = []
twos (first ∷ later) = twos_with first later ++ twos later

abbrev pub derived : List Flown → List AlternateOrigin
derived flown = ones flown ++ twos flown

-- the rows if there are some, otherwise these others
abbrev pub rows_or : List AlternateRow → List AlternateOrigin → List AlternateOrigin
rows_or [] others = others
rows_or (row ∷ rows) others = of_rows 1 (row ∷ rows)

-- what the alternate minima of a station stand for
abbrev pub alternates : Case → Station → List AlternateOrigin
alternates c station = rows_or (alternates_of c.grounds.tables station) (derived (flown c station))

abbrev pub wrapped : List AlternateOrigin → List Origin
wrapped origins = map (λ o. origin.Alternate o) origins

abbrev pub raised_to : ℕ → AlternateOrigin → Origin
raised_to approach limit = origin.RaisedTo approach limit

-- an approach raised up to each of the limits in turn, or without one
abbrev pub raised_by : List AlternateOrigin → ℕ → List Origin
raised_by [] approach = origin.RaisedFreely approach ∷ []
raised_by (limit ∷ limits) approach = map (raised_to approach) (limit ∷ limits)

abbrev pub of_raised : List AlternateOrigin → List Flown → List Origin
of_raised limits [] = []
of_raised limits (f ∷ rest) = raised_by limits f.row ++ of_raised limits rest

abbrev pub landing_origins : Case → Station → List Origin
landing_origins c station = of_landing (flown c station)

abbrev pub alternate_origins : Case → Station → List Origin
alternate_origins c station = wrapped (alternates c station)

abbrev pub raised_origins : Case → Station → List Origin
raised_origins c station = of_raised (alternates c station) (flown c station)

-- what the landing minima stand for that hold for the captain
abbrev pub arrival_origins : Case → Station → List Origin
arrival_origins c station = if has_few_hours c then raised_origins c station else landing_origins c station

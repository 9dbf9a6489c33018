-- The tables as lists of rows, and the lookups in them.
use Rattle.std.specs.Prelude.{ℕ, Bool, true, false, ◌&&◌, ◌||◌, List, Option, None, Some, find, filter, is_some}
use Rattle.std.specs.List.{list_any}
use Rattle.std.specs.Option.{option_map}
use Rattle.std.specs.Str.{bytes_eq}
use Rattle.desk_io.specs.Station.{Station}
use Rattle.ops_tables.specs.declared.rows.Settings.{Settings}
use Rattle.ops_tables.specs.declared.rows.Airport.{Airport}
use Rattle.ops_tables.specs.declared.rows.Approach.{Approach}
use Rattle.ops_tables.specs.declared.rows.AlternateRow.{AlternateRow}
use Rattle.ops_tables.specs.declared.rows.TypeRow.{TypeRow}
use Rattle.ops_tables.specs.declared.rows.Tail.{Tail}
use Rattle.ops_tables.specs.declared.rows.Use.{Use}
use Rattle.ops_tables.specs.declared.rows.Distance.{Distance}
use Rattle.ops_tables.specs.declared.rows.Route.{Route}
use Rattle.ops_tables.specs.declared.rows.MelRow.{MelRow}
use Rattle.ops_tables.specs.Rows.{ItemPair, Actor, CaptainHours}
use Rattle.ops_tables.specs.declared.rows.Role.{Role}
use Rattle.ops_tables.specs.declared.rows.Role.TheVariants.{D, C, F, M, S}

-- the thirteen tables, each as its rows in the order of the file
pub record TableRows : Type 0 where
  pub settings : Settings
  pub airports : List Airport
  pub approaches : List Approach
  pub alternates : List AlternateRow
  pub types : List TypeRow
  pub tails : List Tail
  pub uses : List Use
  pub distances : List Distance
  pub routes : List Route
  pub mel : List MelRow
  pub pairs : List ItemPair
  pub actors : List Actor
  pub hours : List CaptainHours

abbrev pub is_station : Station → Station → Bool
is_station a b = bytes_eq a b

-- the airport of a station
abbrev pub airport_of : TableRows → Station → Option Airport
airport_of t s = find (λ a. is_station a.station s) t.airports

-- the type of this name
abbrev pub type_named : TableRows → List ℕ → Option TypeRow
type_named t kind = find (λ r. bytes_eq r.kind kind) t.types

abbrev pub type_of_tail : TableRows → Option Tail → Option TypeRow
type_of_tail t None = None
type_of_tail t (Some tail) = type_named t tail.kind

-- the aircraft of this registration
abbrev pub tail_named : TableRows → List ℕ → Option Tail
tail_named t tail = find (λ r. bytes_eq r.tail tail) t.tails

-- the type of an aircraft
abbrev pub type_of : TableRows → List ℕ → Option TypeRow
type_of t tail = type_of_tail t (tail_named t tail)

-- the type may use the airport
abbrev pub may_use : TableRows → List ℕ → Station → Bool
may_use t kind s = list_any (λ u. bytes_eq u.kind kind && is_station u.station s) t.uses

-- the distance from one airport to another, in nautical miles
abbrev pub miles_of : TableRows → Station → Station → Option ℕ
miles_of t from to = option_map (λ d. d.miles) (find (λ d. is_station d.from from && is_station d.to to) t.distances)

-- a flag flight on this route may go without an alternate
abbrev pub route_free : TableRows → Station → Station → Bool
route_free t from to = list_any (λ r. is_station r.from from && is_station r.to to) t.routes

-- an item of a type's minimum equipment list
abbrev pub item_of : TableRows → List ℕ → List ℕ → Option MelRow
item_of t kind item = find (λ r. bytes_eq r.kind kind && bytes_eq r.item item) t.mel

abbrev pub is_pair : ItemPair → List ℕ → List ℕ → List ℕ → Bool
is_pair p kind one two = bytes_eq p.kind kind && bytes_eq p.item one && bytes_eq p.other two

-- the table has this pair in this order
abbrev pub has_pair : TableRows → List ℕ → List ℕ → List ℕ → Bool
has_pair t kind item other = list_any (λ p. is_pair p kind item other) t.pairs

-- the two items may not be deferred together, in either order
abbrev pub are_paired : TableRows → List ℕ → List ℕ → List ℕ → Bool
are_paired t kind one two = has_pair t kind one two || has_pair t kind two one

-- the person of this name
abbrev pub actor_of : TableRows → List ℕ → Option Actor
actor_of t name = find (λ a. bytes_eq a.name name) t.actors

abbrev pub hours_by : Option CaptainHours → ℕ
hours_by None = 0
hours_by (Some row) = row.hours

-- the hours of a captain as pilot in command in a type; 0 if there is no row
abbrev pub hours_of : TableRows → List ℕ → List ℕ → ℕ
hours_of t captain kind = hours_by (find (λ h. bytes_eq h.captain captain && bytes_eq h.kind kind) t.hours)

-- the approaches of a station, in the order of the file
abbrev pub approaches_of : TableRows → Station → List Approach
approaches_of t s = filter (λ a. is_station a.station s) t.approaches

-- the alternate minima of a station that has its own, in the order of the file
abbrev pub alternates_of : TableRows → Station → List AlternateRow
alternates_of t s = filter (λ a. is_station a.station s) t.alternates

-- the airport is in the tables; the definitions below say the same of a type, an item and a captain
abbrev pub has_airport : TableRows → Station → Bool
has_airport t station = is_some (airport_of t station)

abbrev pub has_type : TableRows → List ℕ → Bool
has_type t kind = is_some (type_named t kind)

abbrev pub has_item : TableRows → List ℕ → List ℕ → Bool
has_item t kind item = is_some (item_of t kind item)

abbrev pub is_captain_role : Role → Bool
is_captain_role D = false
is_captain_role C = true
is_captain_role F = false
is_captain_role M = false
is_captain_role S = false

abbrev pub is_captain : Option Actor → Bool
is_captain None = false
is_captain (Some actor) = is_captain_role actor.role

abbrev pub has_captain : TableRows → List ℕ → Bool
has_captain t name = is_captain (actor_of t name)

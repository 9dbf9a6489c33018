-- The rows of the tables, each read from the fields of a record in the order of the columns.
use Rattle.std.specs.Prelude.{ℕ, ◌&&◌, List, [], ◌∷◌, if◌then◌else◌, Option, None, Some}
use Rattle.desk_time.specs.Digits.{◌>>=◌}
use Rattle.desk_io.specs.Station.{station_of}
use Rattle.table_files.specs.Fields.{number_within, mark_of, category_of, role_of, capabilities_of}
use Rattle.ops_tables.specs.Forms.{is_name, is_tail, is_person, is_key, are_names, are_item_names, are_two_items}
use Rattle.ops_tables.specs.declared.rows.Airport.{Airport}
use Rattle.ops_tables.specs.declared.rows.Approach.{Approach}
use Rattle.ops_tables.specs.declared.rows.AlternateRow.{AlternateRow}
use Rattle.ops_tables.specs.declared.rows.TypeRow.{TypeRow}
use Rattle.ops_tables.specs.declared.rows.Tail.{Tail}
use Rattle.ops_tables.specs.declared.rows.Use.{Use}
use Rattle.ops_tables.specs.declared.rows.Distance.{Distance}
use Rattle.ops_tables.specs.declared.rows.Route.{Route}
use Rattle.ops_tables.specs.declared.rows.MelRow.{MelRow}
use Rattle.ops_tables.specs.Rows.{ItemPair, Actor, CaptainHours}
use Rattle.table_files.specs.declared.records.ApproachTerms.{ApproachTerms}
use Rattle.table_files.specs.declared.records.TypeTerms.{TypeTerms}
use Rattle.table_files.specs.declared.records.ItemTerms.{ItemTerms}

abbrev pub airport_row : List (List ℕ) → Option Airport
airport_row (station ∷ conus ∷ circle ∷ []) = do
  at ← station_of station
  within ← mark_of conus
  feet ← number_within 0 20000 circle
  Some (record { station = at; conus = within; circle = feet })
airport_row _ = None

unfoldable pub approach_terms : List ℕ → List ℕ → List ℕ → List ℕ → Option ApproachTerms
approach_terms station height ceiling vis16 = do
  at ← station_of station
  feet ← number_within 0 20000 height
  least_ceiling ← number_within 0 20000 ceiling
  least_vis ← number_within 0 160 vis16
  Some (record { station = at; height = feet; ceiling = least_ceiling; vis16 = least_vis })

abbrev pub named_approach : List ℕ → List ℕ → List ℕ → Option ApproachTerms → Option Approach
named_approach name runway capability None = None
named_approach name runway capability (Some terms) =
    Some (record { station = terms.station; name = name; runway = runway; capability = capability; height = terms.height; ceiling = terms.ceiling; vis16 = terms.vis16 })

abbrev pub approach_row : List (List ℕ) → Option Approach
approach_row (station ∷ name ∷ runway ∷ capability ∷ height ∷ ceiling ∷ vis16 ∷ []) =
    if are_names name runway capability then named_approach name runway capability (approach_terms station height ceiling vis16) else None
approach_row _ = None

abbrev pub alternate_row : List (List ℕ) → Option AlternateRow
alternate_row (station ∷ ceiling ∷ vis16 ∷ []) = do
  at ← station_of station
  least_ceiling ← number_within 0 20000 ceiling
  least_vis ← number_within 0 160 vis16
  Some (record { station = at; ceiling = least_ceiling; vis16 = least_vis })
alternate_row _ = None

unfoldable pub type_terms : List ℕ → List ℕ → List ℕ → List ℕ → Option TypeTerms
type_terms engines oei_knots cruise_pph hold_pph = do
  count ← number_within 2 4 engines
  knots ← number_within 1 1000 oei_knots
  cruise ← number_within 1 100000 cruise_pph
  hold ← number_within 1 100000 hold_pph
  Some (record { engines = count; oei_knots = knots; cruise_pph = cruise; hold_pph = hold })

abbrev pub type_with : List ℕ → TypeTerms → Option (List (List ℕ)) → Option TypeRow
type_with kind terms None = None
type_with kind terms (Some names) =
    Some (record { kind = kind; engines = terms.engines; oei_knots = terms.oei_knots; cruise_pph = terms.cruise_pph; hold_pph = terms.hold_pph; capabilities = names })

abbrev pub named_type : List ℕ → List ℕ → Option TypeTerms → Option TypeRow
named_type kind capabilities None = None
named_type kind capabilities (Some terms) = type_with kind terms (capabilities_of capabilities)

abbrev pub type_row : List (List ℕ) → Option TypeRow
type_row (kind ∷ engines ∷ oei_knots ∷ cruise_pph ∷ hold_pph ∷ capabilities ∷ []) =
    if is_name kind then named_type kind capabilities (type_terms engines oei_knots cruise_pph hold_pph) else None
type_row _ = None

abbrev pub tail_row : List (List ℕ) → Option Tail
tail_row (tail ∷ kind ∷ []) = if is_tail tail && is_name kind then Some (record { tail = tail; kind = kind }) else None
tail_row _ = None

abbrev pub use_row : List (List ℕ) → Option Use
use_row (kind ∷ station ∷ []) = if is_name kind then station_of station >>= (λ at. Some (record { kind = kind; station = at })) else None
use_row _ = None

abbrev pub distance_row : List (List ℕ) → Option Distance
distance_row (from ∷ to ∷ miles ∷ []) = do
  start ← station_of from
  end ← station_of to
  count ← number_within 0 20000 miles
  Some (record { from = start; to = end; miles = count })
distance_row _ = None

abbrev pub route_row : List (List ℕ) → Option Route
route_row (from ∷ to ∷ []) = do
  start ← station_of from
  end ← station_of to
  Some (record { from = start; to = end })
route_row _ = None

unfoldable pub item_terms : List ℕ → List ℕ → List ℕ → List ℕ → List ℕ → Option ItemTerms
item_terms category days extra_fuel flag_ok max_minutes = do
  letter ← category_of category
  count ← number_within 0 365 days
  pounds ← number_within 0 100000 extra_fuel
  ok ← mark_of flag_ok
  longest ← number_within 0 1440 max_minutes
  Some (record { category = letter; days = count; extra_fuel = pounds; flag_ok = ok; max_minutes = longest })

abbrev pub named_item : List ℕ → List ℕ → List ℕ → Option ItemTerms → Option MelRow
named_item kind item capability None = None
named_item kind item capability (Some terms) =
    Some (record { kind = kind; item = item; category = terms.category; days = terms.days; capability = capability; extra_fuel = terms.extra_fuel; flag_ok = terms.flag_ok; max_minutes = terms.max_minutes })

abbrev pub item_row : List (List ℕ) → Option MelRow
item_row (kind ∷ item ∷ category ∷ days ∷ capability ∷ extra_fuel ∷ flag_ok ∷ max_minutes ∷ []) =
    if are_item_names kind item capability then named_item kind item capability (item_terms category days extra_fuel flag_ok max_minutes) else None
item_row _ = None

abbrev pub pair_row : List (List ℕ) → Option ItemPair
pair_row (kind ∷ item ∷ other ∷ []) = if are_two_items kind item other then Some (record { kind = kind; item = item; other = other }) else None
pair_row _ = None

abbrev pub actor_row : List (List ℕ) → Option Actor
actor_row (name ∷ key ∷ role ∷ []) = if is_person name && is_key key then role_of role >>= (λ does. Some (record { name = name; key = key; role = does })) else None
actor_row _ = None

abbrev pub hours_row : List (List ℕ) → Option CaptainHours
hours_row (captain ∷ kind ∷ hours ∷ []) =
    if is_person captain && is_name kind then number_within 0 100000 hours >>= (λ count. Some (record { captain = captain; kind = kind; hours = count })) else None
hours_row _ = None

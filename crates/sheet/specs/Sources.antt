-- Where the controlling weather comes from: the report, and the part of a forecast, that gives each value.
use Rattle.std.specs.Prelude.{◌≡◌, ℕ, ◌+◌, ◌<◌, nat_lt, Bool, true, false, not, ◌&&◌, ◌||◌, if◌then◌else◌, List, [], ◌∷◌, Option, None, Some}
use Rattle.std.specs.List.{slice_get}
use Rattle.std.specs.Option.{option_map}
use Rattle.desk_io.specs.Station.{Station}
use Rattle.weather_reports.specs.declared.metar.Metar.{Metar}
use Rattle.weather_reports.specs.declared.forecast.Part.{Part}
use Rattle.weather_reports.specs.declared.forecast.Taf.{Taf}
use Rattle.weather_window.specs.Values.{Element, ceiling, visibility, is_within, is_normal, has_replaced, has_become, is_changing, may_hold}
use Rattle.facts.specs.declared.report.Report.{Report}
use Rattle.facts.specs.Latest.{latest_metar, latest_taf}
use Rattle.facts.specs.Same.{metar_of_read, taf_of_read}
use Rattle.rules.specs.Grounds.{Grounds}
use Rattle.sheet.specs.declared.lines.Source.{Source}
use Rattle.sheet.specs.declared.sources.Which.{Which}
use Rattle.sheet.specs.declared.sources.Which.TheVariants as which
use Rattle.sheet.specs.declared.sources.Named.{Named}
use Rattle.sheet.specs.declared.sources.Held.{Held}

abbrev pub element_of : Which → Element
element_of which.Ceiling = ceiling
element_of which.Visibility = visibility

-- a METAR or SPECI
abbrev pub by_report : ℕ → Source
by_report id = record { report = id; part = None }

-- a part of a forecast, counted from 1
abbrev pub by_part : ℕ → ℕ → Source
by_part id n = record { report = id; part = Some n }

-- the forecast is valid at the minute
abbrev pub is_valid : ℕ → Taf → Bool
is_valid m taf = is_normal taf.state && is_within taf.from taf.to m

-- the observation is held at the minute
abbrev pub is_held : ℕ → ℕ → Metar → Bool
is_held hold m metar = not metar.nil && is_within metar.observed (metar.observed + hold) m

-- A part of a forecast lasts at the minute: the first, or one that has come.
pub data Lasts (m : ℕ) : ℕ → Part → Type 0 where
  base : {part : Part} → Lasts m 0 part
  replaced : {place : ℕ} {part : Part} → has_replaced m part ≡ true → Lasts m place part
  became : {place : ℕ} {part : Part} → has_become m part ≡ true → Lasts m place part

-- no later part that is a finished change names the element
abbrev pub IsLastNamed : Element → ℕ → ℕ → List Part → Type 0
IsLastNamed element m place parts =
    (later : ℕ) (other : Part) → place < later → slice_get parts later ≡ Some other → has_become m other ≡ true
    → element other.cond ≡ None

-- A part counts for the element at the minute: the last one that lasts and names it, or one that changes or may hold
-- then.
pub data Counts (element : Element) (m : ℕ) (parts : List Part) : ℕ → Part → Type 0 where
  lasts : {place : ℕ} {part : Part} → Lasts m place part → IsLastNamed element m place parts
      → Counts element m parts place part
  changes : {place : ℕ} {part : Part} → is_changing m part ≡ true → Counts element m parts place part
  temporary : {place : ℕ} {part : Part} → may_hold m part ≡ true → Counts element m parts place part

-- the part stands at this place, counts at the minute, and no later part has replaced it
pub record IsInForce (element : Element) (m place : ℕ) (parts : List Part) (part : Part) : Type 0 where
  pub stands : slice_get parts place ≡ Some part
  pub counts : Counts element m parts place part
  pub last : (later : ℕ) (other : Part) → place < later → slice_get parts later ≡ Some other
      → has_replaced m other ≡ false

-- The report is the station's latest forecast or observation and counts at the minute. The part of the forecast that is
-- in force, or the observation, has this value.
pub data IsGivenBy (element : Element) (g : Grounds) (station : Station) (m value : ℕ) : Source → Type 0 where
  forecast : (report : Report) (taf : Taf) (place : ℕ) (part : Part) → latest_taf g.reports station ≡ Some report
      → taf_of_read report.read ≡ Some taf → is_valid m taf ≡ true
      → IsInForce element m place taf.parts part → element part.cond ≡ Some value
      → IsGivenBy element g station m value (by_part report.id (1 + place))
  observation : (report : Report) (metar : Metar) → latest_metar g.reports station ≡ Some report
      → metar_of_read report.read ≡ Some metar
      → is_held g.tables.settings.hold_minutes m metar ≡ true → element metar.cond ≡ Some value
      → IsGivenBy element g station m value (by_report report.id)

-- the value, if there is one, with its source
abbrev pub named_by : Option ℕ → Source → Option Named
named_by None source = None
named_by (Some value) source = Some (record { value = value; source = source })

-- the lesser of two values; the first if they are equal
abbrev pub lesser_named : Option Named → Option Named → Option Named
lesser_named None b = b
lesser_named (Some a) None = Some a
lesser_named (Some a) (Some b) = if nat_lt b.value a.value then Some b else Some a

abbrev pub or_named : Option Named → Option Named → Option Named
or_named None second = second
or_named (Some first) second = Some first

-- What is held once one more part is read. It has replaced all earlier parts, or is a finished change, or counts for a
-- time, or doesn't count.
abbrev pub and_named : Bool → Bool → Bool → Held → Option Named → Held
and_named true becomes passes held named = record { lasting = named; passing = None }
and_named false true passes held named = record { lasting = or_named named held.lasting; passing = held.passing }
and_named false false true held named = record { lasting = held.lasting; passing = lesser_named held.passing named }
and_named false false false held named = held

abbrev pub with_part : Element → ℕ → ℕ → ℕ → Held → Part → Held
with_part element m id n held p = and_named (has_replaced m p) (has_become m p) (is_changing m p || may_hold m p) held (named_by (element p.cond) (by_part id n))

-- what is held once more parts are read, if the first of them has number n
abbrev pub held_from : Element → ℕ → ℕ → ℕ → Held → List Part → Held
held_from element m id n held [] = held
held_from element m id n held (p ∷ ps) = held_from element m id (n + 1) (with_part element m id n held p) ps

abbrev pub only_named : Option Named → Held
only_named named = record { lasting = named; passing = None }

-- the least value that is held
abbrev pub least_named : Held → Option Named
least_named held = lesser_named held.lasting held.passing

-- the least value that the parts of a forecast give at a minute
abbrev pub parts_named : Element → ℕ → ℕ → List Part → Option Named
parts_named element m id [] = None
parts_named element m id (p ∷ ps) = least_named (held_from element m id 2 (only_named (named_by (element p.cond) (by_part id 1))) ps)

abbrev pub taf_named : Element → ℕ → ℕ → Option Taf → Option Named
taf_named element m id None = None
taf_named element m id (Some taf) = if is_valid m taf then parts_named element m id taf.parts else None

abbrev pub metar_named : Element → ℕ → ℕ → ℕ → Option Metar → Option Named
metar_named element hold m id None = None
metar_named element hold m id (Some metar) = if is_held hold m metar then named_by (element metar.cond) (by_report id) else None

abbrev pub forecast_named : Element → ℕ → Option Report → Option Named
forecast_named element m None = None
forecast_named element m (Some r) = taf_named element m r.id (taf_of_read r.read)

abbrev pub report_named : Element → ℕ → ℕ → Option Report → Option Named
report_named element hold m None = None
report_named element hold m (Some r) = metar_named element hold m r.id (metar_of_read r.read)

-- the controlling value at a minute, with its source
abbrev pub named_at : Element → Grounds → Station → ℕ → Option Named
named_at element g station m =
    lesser_named (forecast_named element m (latest_taf g.reports station)) (report_named element g.tables.settings.hold_minutes m (latest_metar g.reports station))

abbrev pub source_of : Option Named → Option Source
source_of named = option_map (λ n. n.source) named

-- what gives the controlling value at a minute, if something does
abbrev pub source_at : Element → Grounds → Station → ℕ → Option Source
source_at element g station m = source_of (named_at element g station m)

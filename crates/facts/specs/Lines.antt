-- The lines that print the weather: one for each station's latest report of each kind.
use Rattle.std.specs.Prelude.{◌≡◌, ℕ, if◌then◌else◌, List, [], ◌∷◌, ◌++◌, length, Option, None, Some, codes, decimal}
use Rattle.std.specs.List.{concat, list_any}
use Rattle.std.specs.List.Sorted.{IsStrictlySortedBy}
use Rattle.std.specs.Str.{bytes_eq}
use Rattle.std.specs.Ordering.{nat_cmp, match_ordering}
use Rattle.std.specs.Cmp.Lexicographic.{slice_cmp}
use Rattle.desk_time.specs.Moments.{shown}
use Rattle.codes.specs.declared.cond.Cond.{Cond}
use Rattle.desk_io.specs.Station.{Station}
use Rattle.weather_reports.specs.declared.metar.Metar.{Metar}
use Rattle.weather_reports.specs.declared.forecast.Taf.{Taf}
use Rattle.weather_reports.specs.declared.forecast.TafState.{TafState}
use Rattle.weather_reports.specs.declared.forecast.TafState.TheVariants.{Normal, Nil, Cancelled}
use Rattle.facts.specs.declared.report.Read.{Read}
use Rattle.facts.specs.declared.report.Read.TheVariants as read
use Rattle.facts.specs.declared.report.Report.{Report}
use Rattle.facts.specs.Same.{minute_of_report, station_of_report}
use Rattle.facts.specs.Latest.{latest_metar, latest_taf}

-- a moment, such as 2025-03-12T17:00Z
unfoldable pub moment_text : ℕ → List ℕ
moment_text at = shown at

abbrev pub value_text : Option ℕ → List ℕ
value_text None = codes "-"
value_text (Some n) = decimal n

abbrev pub cond_text : Cond → ℕ → List ℕ
cond_text c unread =
    concat (codes " ceiling " ∷ value_text c.ceiling ∷ codes " vis " ∷ value_text c.vis ∷ codes " unread " ∷ decimal unread ∷ [])

-- an observation's line after its moment
abbrev pub metar_text : Metar → List ℕ
metar_text m = if m.nil then codes " NIL" else cond_text m.cond m.unread

abbrev pub state_word : TafState → List ℕ
state_word Normal = codes " parts "
state_word Nil = codes " NIL"
state_word Cancelled = codes " CNL"

-- the number of parts of a normal forecast, or else nothing
abbrev pub part_count : TafState → ℕ → List ℕ
part_count Normal parts = decimal parts
part_count Nil parts = []
part_count Cancelled parts = []

-- a forecast's line after its moment: the validity, and then the number of parts, NIL or CNL
abbrev pub taf_text : Taf → List ℕ
taf_text t =
    concat (codes " " ∷ moment_text t.from ∷ codes " " ∷ moment_text t.to ∷ state_word t.state ∷ part_count t.state (length t.parts) ∷ [])

abbrev pub kind_text : Read → List ℕ
kind_text (read.Metar metar) = codes " METAR "
kind_text (read.Taf taf) = codes " TAF "

abbrev pub read_text : Read → List ℕ
read_text (read.Metar metar) = metar_text metar
read_text (read.Taf taf) = taf_text taf

-- a report's line up to its moment: station, kind, number and moment
abbrev pub head_text : Report → List ℕ
head_text r =
    concat (station_of_report r ∷ kind_text r.read ∷ decimal r.id ∷ codes " " ∷ moment_text (minute_of_report r) ∷ [])

-- the line of a report
unfoldable pub line_of : Report → List ℕ
line_of r = head_text r ++ read_text r.read ++ codes "\n"

abbrev pub line_of_latest : Option Report → List ℕ
line_of_latest None = []
line_of_latest (Some r) = line_of r

-- the lines of a station: its latest observation, and then its latest forecast
abbrev pub weather_at : List Report → Station → List ℕ
weather_at rs station = line_of_latest (latest_metar rs station) ++ line_of_latest (latest_taf rs station)

-- a sorted list of stations with one more in its place, unless it is there
abbrev pub with_station : Station → List Station → List Station
with_station s [] = s ∷ []
with_station s (t ∷ ts) = match_ordering (slice_cmp nat_cmp s t) (s ∷ t ∷ ts) (t ∷ ts) (t ∷ with_station s ts)

-- the stations of `found` and of the reports, each once and in byte order
abbrev pub stations_with : List Station → List Report → List Station
stations_with found [] = found
stations_with found (r ∷ rs) = stations_with (with_station (station_of_report r) found) rs

-- the stations that have a report, each once and in byte order
unfoldable pub stations_of : List Report → List Station
stations_of rs = stations_with [] rs

-- These are exactly the stations that have a report, in increasing byte order.
pub record AreStations (rs : List Report) (stations : List Station) : Type 0 where
  pub rising : IsStrictlySortedBy (slice_cmp nat_cmp) stations
  pub each : (s : List ℕ) → list_any (λ t. bytes_eq t s) stations ≡ list_any (λ r. bytes_eq (station_of_report r) s) rs

abbrev pub lines_for : List Station → List Report → List ℕ
lines_for [] rs = []
lines_for (s ∷ ss) rs = weather_at rs s ++ lines_for ss rs

-- the lines of all stations that have a report, in byte order
unfoldable pub weather : List Report → List ℕ
weather rs = lines_for (stations_of rs) rs

-- The latest report of each kind and station, in the whole list of reports.
use Rattle.std.specs.Prelude.{◌≡◌, ◌≢◌, ◌≤◌, nat_lt, Bool, true, false, ◌&&◌, IsTrue, if◌then◌else◌, List, [], ◌∷◌, ◌++◌, All, Option, None, Some}
use Rattle.std.specs.Str.{bytes_eq}
use Rattle.std.specs.Option.{option_and_then}
use Rattle.desk_io.specs.Station.{Station}
use Rattle.weather_reports.specs.declared.metar.Metar.{Metar}
use Rattle.weather_reports.specs.declared.forecast.Taf.{Taf}
use Rattle.facts.specs.declared.report.Read.{Read}
use Rattle.facts.specs.declared.report.Read.TheVariants as read
use Rattle.facts.specs.declared.report.Report.{Report}
use Rattle.facts.specs.declared.latest.Kind.{Kind}
use Rattle.facts.specs.declared.latest.Kind.TheVariants as kind
use Rattle.facts.specs.Same.{minute_of_report, station_of_report, metar_of_read, taf_of_read}

abbrev pub is_kind : Kind → Read → Bool
is_kind kind.Observation (read.Metar metar) = true
is_kind kind.Observation (read.Taf taf) = false
is_kind kind.Forecast (read.Metar metar) = false
is_kind kind.Forecast (read.Taf taf) = true

-- the report is of that kind and station
abbrev pub is_of : Kind → Station → Report → Bool
is_of kind station r = is_kind kind r.read && bytes_eq (station_of_report r) station

abbrev pub where_of : Kind → Station → Report → Option Report
where_of kind station r = if is_of kind station r then Some r else None

-- the report with the later moment; of equal moments, the second
abbrev pub later : Option Report → Option Report → Option Report
later None b = b
later (Some a) None = Some a
later (Some a) (Some b) = if nat_lt (minute_of_report b) (minute_of_report a) then Some a else Some b

-- the latest report of that kind and station in the list
abbrev pub latest : Kind → Station → List Report → Option Report
latest kind station [] = None
latest kind station (r ∷ rs) = later (where_of kind station r) (latest kind station rs)

abbrev pub latest_metar : List Report → Station → Option Report
latest_metar rs station = latest kind.Observation station rs

abbrev pub latest_taf : List Report → Station → Option Report
latest_taf rs station = latest kind.Forecast station rs

-- the reading of the station's latest METAR or SPECI
abbrev pub metar_latest : List Report → Station → Option Metar
metar_latest rs station = option_and_then (λ r. metar_of_read r.read) (latest_metar rs station)

-- the reading of the station's latest TAF
abbrev pub taf_latest : List Report → Station → Option Taf
taf_latest rs station = option_and_then (λ r. taf_of_read r.read) (latest_taf rs station)

-- A report of that kind and station. None in the list has a later moment, and none after it has the same moment.
pub record IsLatestReport (kind : Kind) (station : Station) (rs : List Report) (r : Report) : Type 0 where
  pub before : List Report
  pub after : List Report
  pub stands : rs ≡ before ++ r ∷ after
  pub alike : IsTrue (is_of kind station r)
  pub greatest : All (λ q. IsTrue (is_of kind station q) → minute_of_report q ≤ minute_of_report r) rs
  pub last : All (λ q. IsTrue (is_of kind station q) → minute_of_report q ≢ minute_of_report r) after

-- the latest report, or None if there is none of that kind and station
abbrev pub IsLatest : Kind → Station → List Report → Option Report → Type 0
IsLatest kind station rs None = All (λ q. ¬ IsTrue (is_of kind station q)) rs
IsLatest kind station rs (Some r) = IsLatestReport kind station rs r

abbrev pub IsLatestMetar : Station → List Report → Option Report → Type 0
IsLatestMetar station rs r = IsLatest kind.Observation station rs r

abbrev pub IsLatestTaf : Station → List Report → Option Report → Type 0
IsLatestTaf station rs r = IsLatest kind.Forecast station rs r

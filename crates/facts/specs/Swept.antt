-- Which reports stay when old reports are swept.
use Rattle.std.specs.Prelude.{ℕ, nat_le, Bool, false, not, ◌==◌, ◌||◌, List, Option, None, Some}
use Rattle.std.specs.List.{filter, list_any}
use Rattle.facts.specs.declared.index.Places.{Places}
use Rattle.facts.specs.declared.latest.Kind.{Kind}
use Rattle.facts.specs.declared.latest.Kind.TheVariants as kind
use Rattle.facts.specs.declared.report.Read.{Read}
use Rattle.facts.specs.declared.report.Read.TheVariants as read
use Rattle.facts.specs.declared.report.Report.{Report}
use Rattle.desk_io.specs.Station.{Station}
use Rattle.facts.specs.Same.{minute_of_report, station_of_report}
use Rattle.facts.specs.Latest.{latest}
use Rattle.facts.specs.Index.{place_of, places_or, of_station}
use Rattle.facts.specs.Reports.{Admissions}

abbrev pub kind_of : Read → Kind
kind_of (read.Metar metar) = kind.Observation
kind_of (read.Taf taf) = kind.Forecast

abbrev pub has_id : ℕ → Option Report → Bool
has_id id None = false
has_id id (Some r) = r.id == id

-- the latest report of its kind and station has its number
abbrev pub is_latest : List Report → Report → Bool
is_latest rs r = has_id r.id (latest (kind_of r.read) (station_of_report r) rs)

abbrev pub is_kept : List ℕ → Report → Bool
is_kept keep r = list_any (λ id. id == r.id) keep

-- A report stays if its moment is `before` or later. It also stays if it is the latest of its kind and station, or if
-- `keep` contains its number.
abbrev pub stays : ℕ → List ℕ → List Report → Report → Bool
stays before keep rs r = nat_le before (minute_of_report r) || is_latest rs r || is_kept keep r

-- the reports that stay, in order
unfoldable pub swept : ℕ → List ℕ → List Report → List Report
swept before keep rs = filter (stays before keep rs) rs

-- the reports that are removed, in order
unfoldable pub leaving : ℕ → List ℕ → List Report → List Report
leaving before keep rs = filter (λ r. not (stays before keep rs r)) rs

-- the reports that stay, without reserved room
abbrev pub with_swept : ℕ → List ℕ → Admissions → Admissions
with_swept before keep a = record { reports = swept before keep a.reports; room = None }

-- the latest report is at that place
abbrev pub is_place : Option ℕ → ℕ → Bool
is_place None place = false
is_place (Some at) place = at == place

-- by the index, the report at `place` is the latest of its kind and station
abbrev pub stands_latest : List (Station × Places) → Report → ℕ → Bool
stands_latest entries r place = is_place (place_of (kind_of r.read) (places_or (of_station entries (station_of_report r)))) place

-- `stays`, by the place of the report and the index of the latest reports
abbrev pub stays_at : ℕ → List ℕ → List (Station × Places) → Report → ℕ → Bool
stays_at before keep entries r place = nat_le before (minute_of_report r) || stands_latest entries r place || is_kept keep r

-- Reading a report of either kind (FMH-1; WMO FM 15 and FM 51).
use Rattle.std.specs.Prelude.{◌≡◌, ℕ, nat_lt, Bool, true, false, if◌then◌else◌, List, length, All, Result, Ok, Err, codes}
use Rattle.std.specs.Str.{bytes_eq}
use Rattle.codes.specs.Groups.{groups_of, first_of, canonical}
use Rattle.codes.specs.declared.fault.BadReport.{BadReport}
use Rattle.weather_reports.specs.declared.metar.Metar.{Metar}
use Rattle.codes.specs.Answers.{too_long}
use Rattle.weather_reports.specs.MetarReading as observation
use Rattle.weather_reports.specs.declared.forecast.Taf.{Taf}
use Rattle.weather_reports.specs.TafReading as forecast
use Rattle.weather_reports.specs.Parts.{HasMoments as PartHasMoments}
use Rattle.desk_time.specs.Limits.{IsMoment}
use Rattle.facts.specs.declared.report.Read.{Read}
use Rattle.facts.specs.declared.report.Read.TheVariants as read
use Rattle.facts.specs.declared.report.Report.{Report}
use Rattle.facts.specs.declared.report.Received.{Received}

abbrev pub observes : Result Metar BadReport → Result Read BadReport
observes (Ok metar) = Ok (read.Metar metar)
observes (Err bad) = Err bad

abbrev pub forecasts : Result Taf BadReport → Result Read BadReport
forecasts (Ok taf) = Ok (read.Taf taf)
forecasts (Err bad) = Err bad

-- A report is a TAF if its first group is TAF, and otherwise an observation.
abbrev pub is_forecast : List (List ℕ) → Bool
is_forecast gs = bytes_eq (first_of gs) (codes "TAF")

abbrev pub read_as : Bool → List (List ℕ) → ℕ → Result Read BadReport
read_as true gs receipt = forecasts (forecast.reading gs receipt)
read_as false gs receipt = observes (observation.reading gs receipt)

-- the reading of the groups of a report received at `receipt`, or the first fault
unfoldable pub reading : List (List ℕ) → ℕ → Result Read BadReport
reading gs receipt = read_as (is_forecast gs) gs receipt

-- the reading of a text received at `receipt`, or its fault
unfoldable pub read_of : List ℕ → ℕ → Result Read BadReport
read_of text receipt = if nat_lt 2048 (length text) then Err too_long else reading (groups_of text) receipt

-- every moment of the forecast can be read
pub record TafHasMoments (taf : Taf) : Type 0 where
  pub issued : IsMoment taf.issued
  pub from : IsMoment taf.from
  pub to : IsMoment taf.to
  pub parts : All PartHasMoments taf.parts

abbrev pub ReadHasMoments : Read → Type 0
ReadHasMoments (read.Metar metar) = IsMoment metar.observed
ReadHasMoments (read.Taf taf) = TafHasMoments taf

-- every moment of the report can be read
pub record HasMoments (r : Report) : Type 0 where
  pub received : IsMoment r.received
  pub read : ReadHasMoments r.read

-- The text is canonical: it is the canonical text of its own groups. The reading is that of the text at its receipt.
pub record IsRead (r : Report) : Type 0 where
  pub canonical : canonical (groups_of r.text) ≡ r.text
  pub reading : read_of r.text r.received ≡ Ok r.read
  pub moments : HasMoments r

-- the reading in a received report
abbrev pub read_in : {E : Type 0} → Result Received E → Result Read E
read_in (Ok r) = Ok r.read
read_in (Err e) = Err e

-- the received report with its number
abbrev pub report_of : ℕ → ℕ → Received → Report
report_of id receipt r = record { id = id; received = receipt; text = r.text; read = r.read }

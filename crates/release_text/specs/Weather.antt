-- The latest weather reports, which are attached to the text of a release (14 CFR 121.687(b)).
use Rattle.std.specs.Prelude.{ℕ, ◌==◌, Bool, if◌then◌else◌, List, [], ◌∷◌, ◌++◌, map, Option, None, Some}
use Rattle.std.specs.List.{list_any}
use Rattle.desk_io.specs.Station.{Station}
use Rattle.codes.specs.Cond.{lesser}
use Rattle.plan.specs.declared.flights.Plan.{Plan}
use Rattle.plan.specs.declared.release.Phase.{Phase}
use Rattle.facts.specs.declared.report.Report.{Report}
use Rattle.facts.specs.Latest.{latest_metar, latest_taf}
use Rattle.plan.specs.declared.release.Attached.{Attached}
use Rattle.release_text.specs.Concerned.{concerned}

abbrev pub where_held : Option Report → List Report
where_held None = []
where_held (Some report) = report ∷ []

-- the station's latest METAR or SPECI and then its latest TAF, if there are any
abbrev pub latest_at : List Report → Station → List Report
latest_at reports station = where_held (latest_metar reports station) ++ where_held (latest_taf reports station)

abbrev pub latest_of : List Report → List Station → List Report
latest_of reports [] = []
latest_of reports (station ∷ stations) = latest_at reports station ++ latest_of reports stations

-- the latest reports of the stations that a release concerns, station by station
unfoldable pub weather_for : List Report → Plan → Phase → List Report
weather_for reports plan phase = latest_of reports (concerned plan phase)

-- a report as it is attached: its number and its text
abbrev pub attached_of : Report → Attached
attached_of report = record { report = report.id; text = report.text }

-- what is attached: all latest reports of the stations that the release concerns
unfoldable pub attached_to : List Report → Plan → Phase → List Attached
attached_to reports plan phase = map attached_of (weather_for reports plan phase)

abbrev pub is_attached : List Attached → ℕ → Bool
is_attached attached id = list_any (λ a. a.report == id) attached

-- the number of the report if it isn't attached
abbrev pub new_id : List Attached → Report → Option ℕ
new_id attached report = if is_attached attached report.id then None else Some report.id

-- the least number of a report that isn't attached
abbrev pub least_new : List Attached → List Report → Option ℕ
least_new attached [] = None
least_new attached (report ∷ reports) = lesser (new_id attached report) (least_new attached reports)

-- the same among the latest reports of these stations
abbrev pub newer_of : List Report → List Attached → List Station → Option ℕ
newer_of reports attached [] = None
newer_of reports attached (station ∷ stations) = lesser (least_new attached (latest_at reports station)) (newer_of reports attached stations)

-- the same among the latest reports of the stations that the release concerns
unfoldable pub newer_than : List Report → Plan → Phase → List Attached → Option ℕ
newer_than reports plan phase attached = least_new attached (weather_for reports plan phase)

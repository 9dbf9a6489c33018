-- The rows of a state: the meta row, and one for each report, deferral, release, kept reply and alert.
use Rattle.std.specs.Prelude.{◌≡◌, ◌⊎◌, List, ◌∷◌, ◌++◌, map}
use Rattle.std.specs.List.{AllByRecursion}
use Rattle.desk_io.specs.declared.rows.Row.{Row}
use Rattle.desk_io.specs.Rows.{Rows, no_rows, rows_of}
use Rattle.alerts.specs.declared.alert.Alert.{Alert as AlertOf}
use Rattle.facts.specs.declared.report.Report.{Report as ReportOf}
use Rattle.keeper.specs.Kept.{AreSame}
use Rattle.desk_state.specs.State.{State, start}
use Rattle.release_json.specs.Versions.{HasNoHours}
use Rattle.release_json.specs.declared.version.Version.TheVariants.{First}
use Rattle.records.specs.Bodies.{row_in, row_of}
use Rattle.records.specs.declared.record.KeptAlert.{KeptAlert}
use Rattle.records.specs.declared.record.KeptReport.{KeptReport}
use Rattle.records.specs.declared.record.Meta.{Meta as MetaOf}
use Rattle.records.specs.declared.record.Record.{Record}
use Rattle.records.specs.declared.record.Record.TheVariants.{Meta, Report, Deferral, Release, Kept, Alert}

-- the moment, the counters and the floors
abbrev pub meta_of : State → MetaOf
meta_of s = record { moment = s.moment; counters = s.counters; floors = s.floors }

-- what is stored of a report; its reading isn't, because the desk reads the text again
abbrev pub report_kept : ReportOf → KeptReport
report_kept r = record { id = r.id; received = r.received; text = r.text }

-- what is stored of an alert; its dispatcher isn't, because the release has its holder
abbrev pub alert_kept : AlertOf → KeptAlert
alert_kept a = record { release = a.release; version = a.version; opened = a.opened; failing = a.failing; ever = a.ever; acknowledged = a.acknowledged }

-- the records of a state, by kind and then by key
unfoldable pub records_of : State → List Record
records_of s =
    Meta (meta_of s) ∷ map (λ r. Report (report_kept r)) s.reports ++ map Deferral s.deferrals ++ map Release s.releases ++ map Kept s.kept
    ++ map (λ a. Alert (alert_kept a)) s.alerts

-- the rows of a state
unfoldable pub state_rows : State → List Row
state_rows s = map row_of (records_of s)

-- The stored rows are those of the state. A new desk may also have no rows.
abbrev pub AreKept : Rows → State → Type 0
AreKept rows s = AreSame rows (rows_of (state_rows s)) ⊎ (AreSame rows no_rows × (s ≡ start s.tables))

-- The stored rows are those of the state in the first version, and no release has a captain's hours.
pub record AreOldRows (rows : Rows) (s : State) : Type 0 where
  pub lacks : AllByRecursion HasNoHours s.releases
  pub same : AreSame rows (rows_of (map (row_in First) (records_of s)))

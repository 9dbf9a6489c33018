-- The state that records represent.
use Rattle.std.specs.Prelude.{◌≡◌, ℕ, ◌==◌, nat_lt, Bool, true, ◌&&◌, ◌||◌, All, if◌then◌else◌, List, [], ◌∷◌, Option, None, Some, Result, Ok, Err}
use Rattle.std.specs.List.{filter_map}
use Rattle.std.specs.Option.{option_map}
use Rattle.codes.specs.declared.fault.BadReport.{BadReport}
use Rattle.ops_tables.specs.Tables.{TableRows}
use Rattle.plan.specs.declared.release.Release.{Release as ReleaseOf}
use Rattle.asks.specs.declared.kept.KeptReply.{KeptReply}
use Rattle.deferrals.specs.declared.items.Deferral.{Deferral as DeferralOf}
use Rattle.facts.specs.Reading.{read_of}
use Rattle.facts.specs.declared.report.Read.{Read}
use Rattle.facts.specs.declared.report.Report.{Report as ReportOf}
use Rattle.alerts.specs.declared.alert.Alert.{Alert as AlertOf}
use Rattle.desk_state.specs.State.{State, start, release_at}
use Rattle.records.specs.Faults.{fit, meta_from}
use Rattle.records.specs.Kinds.{kind_of, key_of}
use Rattle.records.specs.Valid.{IsRecord}
use Rattle.records.specs.declared.record.KeptAlert.{KeptAlert}
use Rattle.records.specs.declared.record.KeptReport.{KeptReport}
use Rattle.records.specs.declared.record.Meta.{Meta as MetaOf}
use Rattle.records.specs.declared.record.Record.{Record}
use Rattle.records.specs.declared.record.Record.TheVariants.{Meta, Report, Deferral, Release, Kept, Alert}

-- ---- the records of a desk

-- by kind, and then by key
abbrev pub comes_before : Record → Record → Bool
comes_before a b = nat_lt (kind_of a) (kind_of b) || ((kind_of a == kind_of b) && nat_lt (key_of a) (key_of b))

abbrev pub rises_from : Record → List Record → Bool
rises_from r [] = true
rises_from r (next ∷ rs) = comes_before r next && rises_from next rs

-- each record is before the next
abbrev pub rising : List Record → Bool
rising [] = true
rising (r ∷ rs) = rises_from r rs

-- valid records that fit together, in order
pub record AreOfDesk (records : List Record) : Type 0 where
  pub valid : All IsRecord records
  pub fit : fit records ≡ Ok tt
  pub order : rising records ≡ true

-- ---- records by kind

abbrev pub report_in : Record → Option KeptReport
report_in (Meta m) = None
report_in (Report r) = Some r
report_in (Deferral d) = None
report_in (Release r) = None
report_in (Kept k) = None
report_in (Alert a) = None

abbrev pub deferral_in : Record → Option DeferralOf
deferral_in (Meta m) = None
deferral_in (Report r) = None
deferral_in (Deferral d) = Some d
deferral_in (Release r) = None
deferral_in (Kept k) = None
deferral_in (Alert a) = None

abbrev pub release_in : Record → Option ReleaseOf
release_in (Meta m) = None
release_in (Report r) = None
release_in (Deferral d) = None
release_in (Release r) = Some r
release_in (Kept k) = None
release_in (Alert a) = None

abbrev pub reply_in : Record → Option KeptReply
reply_in (Meta m) = None
reply_in (Report r) = None
reply_in (Deferral d) = None
reply_in (Release r) = None
reply_in (Kept k) = Some k
reply_in (Alert a) = None

abbrev pub alert_in : Record → Option KeptAlert
alert_in (Meta m) = None
alert_in (Report r) = None
alert_in (Deferral d) = None
alert_in (Release r) = None
alert_in (Kept k) = None
alert_in (Alert a) = Some a

-- the first meta record
abbrev pub meta_in : List Record → Option MetaOf
meta_in records = option_map (λ found. found.1) (meta_from 0 records)

-- ---- the state

abbrev pub report_with : KeptReport → Read → ReportOf
report_with r read = record { id = r.id; received = r.received; text = r.text; read = read }

abbrev pub report_if : KeptReport → Result Read BadReport → Option ReportOf
report_if r (Ok read) = Some (report_with r read)
report_if r (Err bad) = None

-- a report, read again as of its receipt
unfoldable pub report_of : KeptReport → Option ReportOf
report_of r = report_if r (read_of r.text r.received)

-- a release, if it has this id
abbrev pub if_of : ℕ → Option ReleaseOf → Option ReleaseOf
if_of id None = None
if_of id (Some r) = if r.id == id then Some r else None

-- an alert, with the dispatcher to whom it goes
abbrev pub alert_with : KeptAlert → List ℕ → AlertOf
alert_with a desk = record { release = a.release; desk = desk; version = a.version; opened = a.opened; failing = a.failing; ever = a.ever; acknowledged = a.acknowledged }

-- an alert for the holder of its release, or none if there is no such release
abbrev pub alert_of : List ReleaseOf → KeptAlert → Option AlertOf
alert_of releases a = option_map (λ r. alert_with a r.holder) (release_at a.release releases)

-- the state with the contents of the records and with no history
abbrev pub state_with : TableRows → MetaOf → List Record → State
state_with tables m records = record {
  tables = tables;
  moment = m.moment;
  counters = m.counters;
  reports = filter_map report_of (filter_map report_in records);
  deferrals = filter_map deferral_in records;
  releases = filter_map release_in records;
  alerts = filter_map (alert_of (filter_map release_in records)) (filter_map alert_in records);
  kept = filter_map reply_in records;
  floors = m.floors;
  entries = [];
}

abbrev pub state_by : TableRows → Option MetaOf → List Record → State
state_by tables None records = start tables
state_by tables (Some m) records = state_with tables m records

-- The state that records represent, with these tables. Without a meta record, it is that of a new desk.
unfoldable pub state_in : TableRows → List Record → State
state_in tables records = state_by tables (meta_in records) records

-- What the views of the desk show.
use Rattle.std.specs.Prelude.{ℕ, Bool, List, map, Option}
use Rattle.std.specs.Option.{option_map}
use Rattle.alerts.specs.declared.alert.Alert.{Alert}
use Rattle.deferrals.specs.Due.{due}
use Rattle.deferrals.specs.Limits.{open_on}
use Rattle.deferrals.specs.declared.items.Deferral.{Deferral}
use Rattle.desk_io.specs.Station.{Station}
use Rattle.desk_state.specs.State.{State, alert_at}
use Rattle.desk_state.specs.Texts.{newest}
use Rattle.facts.specs.Latest.{latest_metar, latest_taf}
use Rattle.facts.specs.declared.report.Report.{Report}
use Rattle.ops_tables.specs.Tables.{TableRows, item_of}
use Rattle.plan.specs.declared.release.Phase.{Phase}
use Rattle.plan.specs.declared.release.Release.{Release}
use Rattle.plan.specs.declared.release.Revision.{Revision}
use Rattle.plan.specs.declared.release.Signature.{Signature}

-- ---- the board

-- a flight and its aircraft
pub record FlightShown : Type 0 where
  pub flight : List ℕ
  pub tail : List ℕ

-- a revision that waits for signatures, and the dispatcher's signature
pub record PendingShown : Type 0 where
  pub revision : ℕ
  pub prepared : Bool
  pub signed : Option Signature

-- a release on the board: the flight of its newest revision, the number of its active revision, its pending revision,
-- the dispatcher who holds it, and its alert
pub record ReleaseShown : Type 0 where
  pub release : ℕ
  pub flight : Option FlightShown
  pub phase : Phase
  pub active : Option ℕ
  pub pending : Option PendingShown
  pub dispatcher : List ℕ
  pub alert : Option Alert

pub record BoardShown : Type 0 where
  pub at : ℕ
  pub releases : List ReleaseShown

abbrev pub flight_shown : Revision → FlightShown
flight_shown v = record { flight = v.plan.flight; tail = v.plan.tail }

abbrev pub pending_shown : Revision → PendingShown
pending_shown v = record { revision = v.number; prepared = v.prepared; signed = v.dispatcher }

abbrev pub release_shown : Release → Option Alert → ReleaseShown
release_shown r alert = record {
  release = r.id;
  flight = option_map flight_shown (newest r.pending r.active);
  phase = r.phase;
  active = option_map (λ v. v.number) r.active;
  pending = option_map pending_shown r.pending;
  dispatcher = r.holder;
  alert = alert;
}

-- each release, with its alert
abbrev pub releases_shown : List Alert → List Release → List ReleaseShown
releases_shown alerts releases = map (λ r. release_shown r (alert_at r.id alerts)) releases

abbrev pub board_shown : State → BoardShown
board_shown s = record { at = s.moment; releases = releases_shown s.alerts s.releases }

-- ---- alerts

pub record AlertsShown : Type 0 where
  pub at : ℕ
  pub alerts : List Alert

abbrev pub alerts_shown : State → AlertsShown
alerts_shown s = record { at = s.moment; alerts = s.alerts }

-- ---- a release

-- a release with its revisions, and its alert
pub record DetailShown : Type 0 where
  pub at : ℕ
  pub release : Release
  pub alert : Option Alert

abbrev pub detail_shown : State → Release → DetailShown
detail_shown s r = record { at = s.moment; release = r; alert = alert_at r.id s.alerts }

-- ---- weather

-- the latest METAR or SPECI of a station, and its latest TAF
pub record WeatherShown : Type 0 where
  pub at : ℕ
  pub station : Station
  pub metar : Option Report
  pub taf : Option Report

abbrev pub weather_shown : State → Station → WeatherShown
weather_shown s station = record { at = s.moment; station = station; metar = latest_metar s.reports station; taf = latest_taf s.reports station }

-- ---- deferred items

-- a deferred item, and the moment by which it must be repaired, if the type's list has it
pub record ItemShown : Type 0 where
  pub deferral : ℕ
  pub item : List ℕ
  pub found : ℕ
  pub due : Option ℕ

-- the open deferrals of an aircraft
pub record DeferredShown : Type 0 where
  pub at : ℕ
  pub tail : List ℕ
  pub items : List ItemShown

abbrev pub due_shown : TableRows → List ℕ → Deferral → Option ℕ
due_shown tables kind d = option_map (λ row. due row d.found) (item_of tables kind d.item)

abbrev pub item_shown : TableRows → List ℕ → Deferral → ItemShown
item_shown tables kind d = record { deferral = d.id; item = d.item; found = d.found; due = due_shown tables kind d }

abbrev pub items_shown : TableRows → List ℕ → List Deferral → List ItemShown
items_shown tables kind ds = map (item_shown tables kind) ds

abbrev pub deferred_shown : State → List ℕ → List ℕ → DeferredShown
deferred_shown s tail kind = record { at = s.moment; tail = tail; items = items_shown s.tables kind (open_on tail s.deferrals) }

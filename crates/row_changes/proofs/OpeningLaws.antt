-- A state that is judged on opening is that of a board.
use Rattle.std.proofs.Common.{◌≡◌, ℕ, ◌+◌, ◌<◌, List, [], ◌∷◌, Option, None, Some, refl, subst, arith}
use Rattle.std.specs.List.{AllByRecursion}
use Rattle.alerts.specs.declared.alert.Alert.{Alert}
use Rattle.alerts.specs.Alerts.{IsAlert}
use Rattle.plan.specs.declared.release.Release.{Release}
use Rattle.desk_state.specs.Effects.{nothing}
use Rattle.desk_state.specs.Events.{alert_changes, put_changes}
use Rattle.desk_state.specs.Legal.{IsHistory}
use Rattle.desk_state.specs.AlertHistory.{StayOpen}
use Rattle.desk_state.specs.PlanHistory.{AreReplacedInTurn}
use Rattle.desk_state.specs.Once.{AreOnce}
use Rattle.desk_state.specs.Signatures.{AreKnownByText, AreOwnSignatures}
use Rattle.desk_state.specs.Sound.{AreCounters, AreJudgeable, InBounds, IsBoard, MayStand, Sound}
use Rattle.desk_state.specs.State.{State, judged_all}
use Rattle.desk_state.specs.declared.change.AlertChange.{AlertChange}
use Rattle.desk_state.specs.declared.counters.Counters.{Counters}
use Rattle.desk_state.proofs.AlertHistoryLaws.{none_open}
use Rattle.desk_state.proofs.PlanHistoryLaws.{none_replaced}
use Rattle.desk_state.proofs.Changes.{changes_lead_by}
use Rattle.desk_state.proofs.Judging.{all_own, are_alerted, are_alerts}
use Rattle.desk_state.proofs.OnceLaws.{none_once}
use Rattle.desk_state.proofs.Parts.{more_valid}
use Rattle.desk_state.proofs.SignatureLaws.{all_known, opened_signed}
use Rattle.ops_tables.specs.Tables.{TableRows}
use Rattle.records.specs.declared.record.Meta.{Meta}
use Rattle.records.specs.declared.record.Record.{Record}
use Rattle.row_changes.specs.Held.{meta_in, state_by, state_in}
use Rattle.row_changes.specs.Opening.{MayReopen, counters_with, events_with, reopened}
use Rattle.row_changes.proofs.ReopenedForms.{reopened_formed}
use Rattle.desk_io.proofs.Each.{each_weaker}

tables_by : (tables : TableRows) (found : Option Meta) (records : List Record) → (state_by tables found records).tables ≡ tables
tables_by tables None records = refl
tables_by tables (Some m) records = refl

-- a desk opens with the tables that it is given
pub reopened_tables : (tables : TableRows) (records : List Record) → (reopened (state_in tables records)).tables ≡ tables
unfolding reopened state_in
reopened_tables tables records = tables_by tables (meta_in records) records

-- the changes of the alerts lead to those of the judgement
pub changes_lead : (s : State) → AreJudgeable s → put_changes (alert_changes nothing s) s.alerts ≡ judged_all s
changes_lead s judgeable = changes_lead_by nothing s (record { moment = tt; report = tt; apart = tt; deferrals = tt; releases = tt }) judgeable

still_counters : (changes : List AlertChange) (c : Counters) → AreCounters c → c.events < 999_999_999_999_999 → AreCounters (counters_with changes c)
still_counters [] c are room = are
still_counters (change ∷ changes) c are room = record {
  events = omega (arith, room);
  report = let n = are.report in omega (arith, n);
  deferral = let n = are.deferral in omega (arith, n);
  release = let n = are.release in omega (arith, n);
  accepted = let n = are.accepted in omega (arith, n);
}

still_valid : (changes : List AlertChange) (events : ℕ) (rs : List Release) → AllByRecursion (MayStand events) rs → AllByRecursion (MayStand (events_with changes events)) rs
still_valid [] events rs all = all
still_valid (change ∷ changes) events rs all = each_weaker (MayStand events) (MayStand (events + 1)) (λ r is. more_valid events r is) rs all

-- where no alert changes, they are those that were held
judged_alerts : (changes : List AlertChange) (events : ℕ) (held judged : List Alert) → put_changes changes held ≡ judged → AllByRecursion (IsAlert events) held → AllByRecursion (IsAlert (events + 1)) judged
    → AllByRecursion (IsAlert (events_with changes events)) judged
judged_alerts [] events held judged lead before after = subst (AllByRecursion (IsAlert events)) lead before
judged_alerts (change ∷ changes) events held judged lead before after = after

sound : (s : State) → MayReopen s → Sound (reopened s)
unfolding reopened
sound s may = record {
  alerted = are_alerted s 0 s.counters.next_release may.holds.judgeable.ids may.holds.told;
  own = all_own s 0 s.counters.next_release may.holds.judgeable.ids;
  alerts = judged_alerts (alert_changes nothing s) s.counters.events s.alerts (judged_all s) (changes_lead s may.holds.judgeable) may.holds.judgeable.alerts
      (are_alerts s s.counters.events s.releases may.holds.bounds.moment may.holds.bounds.deferrals.rising may.holds.judgeable.alerts);
  valid = still_valid (alert_changes nothing s) s.counters.events s.releases may.holds.valid;
  unlike = may.holds.unlike;
  single = may.holds.single;
  ids = may.holds.judgeable.ids;
}

bounds : (s : State) → MayReopen s → InBounds (reopened s)
unfolding reopened
bounds s may = record {
  moment = may.holds.bounds.moment;
  counters = still_counters (alert_changes nothing s) s.counters may.holds.bounds.counters may.room;
  reports = may.holds.bounds.reports;
  admitted = may.holds.bounds.admitted;
  few = may.holds.bounds.few;
  deferrals = may.holds.bounds.deferrals;
  releases = may.holds.bounds.releases;
  held = may.holds.bounds.held;
  replies = may.holds.bounds.replies;
  accepted = may.holds.bounds.accepted;
  many = may.holds.bounds.many;
  entries = may.holds.bounds.entries;
  forms = may.holds.bounds.forms;
}

history : (s : State) → MayReopen s → IsHistory (reopened s) (reopened s)
unfolding reopened
history s may = record { empty = may.fresh; legal = rw (may.fresh) refl }

once : (s : State) → MayReopen s → AreOnce (reopened s) (reopened s)
unfolding reopened
once s may = none_once (reopened s) may.fresh

lasting : (s : State) → MayReopen s → StayOpen (reopened s) (reopened s).entries
unfolding reopened
lasting s may = none_open (reopened s) s.entries may.fresh

plans : (s : State) → MayReopen s → AreReplacedInTurn (reopened s) (reopened s).entries
unfolding reopened
plans s may = none_replaced (reopened s) s.entries may.fresh

texts : (s : State) → MayReopen s → AllByRecursion AreKnownByText (reopened s).releases
unfolding reopened
texts s may = all_known s.releases may.holds.formed.releases

signed : (s : State) → MayReopen s → AllByRecursion (AreOwnSignatures (reopened s)) (reopened s).releases
unfolding reopened
signed s may = opened_signed (reopened s) may.holds.judgeable.ids

-- once a state is judged on opening, all holds of it that holds of a board
pub reopened_board : (s : State) → MayReopen s → IsBoard (reopened s) (reopened s)
reopened_board s may = record { tables = refl; history = history s may; once = once s may; lasting = lasting s may; plans = plans s may; sound = sound s may; kept = bounds s may; formed = reopened_formed s may; texts = texts s may; signed = signed s may }

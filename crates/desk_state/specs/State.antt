-- The state of the desk.
use Rattle.std.specs.Prelude.{ℕ, ◌==◌, nat_le, Bool, true, false, ◌&&◌, ◌||◌, not, List, [], length, find, Option, None, Some}
use Rattle.std.specs.List.{filter_map}
use Rattle.ops_tables.specs.Tables.{TableRows}
use Rattle.facts.specs.declared.report.Report.{Report}
use Rattle.deferrals.specs.declared.items.Deferral.{Deferral}
use Rattle.plan.specs.Phases.{is_active}
use Rattle.plan.specs.declared.release.Phase.{Phase}
use Rattle.plan.specs.declared.release.Release.{Release}
use Rattle.plan.specs.declared.release.Revision.{Revision}
use Rattle.plan.specs.declared.findings.Finding.{Finding}
use Rattle.alerts.specs.declared.alert.Alert.{Alert}
use Rattle.alerts.specs.Alerts.{alert_after}
use Rattle.asks.specs.declared.call.Ask.{Ask}
use Rattle.asks.specs.declared.call.Ask.TheVariants as ask
use Rattle.asks.specs.declared.kept.Floor.{Floor}
use Rattle.asks.specs.declared.kept.KeptReply.{KeptReply}
use Rattle.release_index.specs.Below.{Grounds, findings_of}
pub use Rattle.release_index.specs.Changes.{release_at}
use Rattle.desk_state.specs.declared.counters.Counters.{Counters}
use Rattle.desk_state.specs.declared.entry.Entry.{Entry}

pub record State : Type 0 where
  -- the airline's operations tables, which never change
  pub tables : TableRows
  -- the latest moment that the desk has reached, in minutes
  pub moment : ℕ
  -- the number of events, and the next ids
  pub counters : Counters
  -- the reports in order of admission
  pub reports : List Report
  -- the open deferrals in order of their ids
  pub deferrals : List Deferral
  -- the releases in order of their ids
  pub releases : List Release
  -- the alerts in order of their releases
  pub alerts : List Alert
  -- the kept replies of accepted commands, in order
  pub kept : List KeptReply
  -- for each person whose replies a sweep removed, the highest of their numbers; in byte order of the names
  pub floors : List Floor
  -- the history
  pub entries : List Entry

-- the counters before any event: each next id is 1
abbrev pub first_counters : Counters
first_counters = record { events = 0; next_report = 1; next_deferral = 1; next_release = 1; next_kept = 1 }

-- the state of a new desk with these tables: empty, at 2000-01-01T00:00Z
abbrev pub start : TableRows → State
start tables = record { tables = tables; moment = 15_778_080; counters = first_counters; reports = []; deferrals = []; releases = []; alerts = []; kept = []; floors = []; entries = [] }

-- the facts that a judgement uses
abbrev pub grounds_of : State → Grounds
grounds_of s = record { tables = s.tables; reports = s.reports; deferrals = s.deferrals; moment = s.moment }

abbrev pub alert_at : ℕ → List Alert → Option Alert
alert_at id alerts = find (λ a. a.release == id) alerts

abbrev pub failing_if : Bool → Grounds → Revision → Phase → Option (List Finding)
failing_if true g v phase = Some (findings_of v.plan phase g)
failing_if false g v phase = None

-- the rules that an active release fails; an inactive one isn't judged
abbrev pub failing_in : Grounds → Option Revision → Phase → Option (List Finding)
failing_in g None phase = None
failing_in g (Some v) phase = failing_if (is_active phase) g v phase

abbrev pub failing_of : Grounds → Release → Option (List Finding)
failing_of g r = failing_in g r.active r.phase

abbrev pub alert_for : Option (List Finding) → Option Alert → Release → ℕ → Option Alert
alert_for None old r moment = None
alert_for (Some findings) old r moment = alert_after old r.id r.holder findings moment

-- the alert of a release after it is judged
abbrev pub judged : State → Release → Option Alert
judged s r = alert_for (failing_of (grounds_of s) r) (alert_at r.id s.alerts) r s.moment

-- the alerts after every active release is judged
abbrev pub judged_all : State → List Alert
judged_all s = filter_map (judged s) s.releases

-- no further event may come
abbrev pub is_full : State → Bool
is_full s = nat_le 400_000 (length s.entries) || nat_le 999_999_999_999_000 s.counters.events

abbrev pub is_sweep : Ask → Bool
is_sweep (ask.Sweep before) = true
is_sweep _ = false

-- No command with this ask may come. If too many replies are kept, only a sweep may, because it removes replies.
abbrev pub is_full_for : State → Ask → Bool
is_full_for s a = is_full s || (nat_le 400_000 (length s.kept) && not (is_sweep a))

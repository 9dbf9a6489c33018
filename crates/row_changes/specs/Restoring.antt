-- The contents of records in the collections in which the desk holds them.
use Rattle.std.specs.Prelude.{◌≡◌, ◌<◌, ◌≤◌, [], length, Option, None, Some}
use Rattle.std.specs.List.{AllByRecursion, AllPairs, filter_map}
use Rattle.facts.specs.Reports.{AreHeld}
use Rattle.release_index.specs.Bounds.{ReleaseInBounds}
use Rattle.release_index.specs.Releases.{held_of}
use Rattle.ops_tables.specs.Tables.{TableRows}
use Rattle.ops_tables.specs.declared.rows.Settings.{Settings}
use Rattle.desk_state.specs.State.{State, start}
use Rattle.records.specs.Valid.{IsReport}
use Rattle.records.specs.declared.record.Meta.{Meta as MetaOf}
use Rattle.row_changes.specs.Held.{alert_of, report_of}
use Rattle.row_changes.specs.Parting.{Kinds}
use Rattle.row_changes.specs.declared.restoring.Held.{Held}

-- records that the collections can hold: reports that can be read, releases in bounds, and ids that increase
pub record MayHold (k : Kinds) : Type 0 where
  pub valid : AllByRecursion IsReport k.reports
  pub read : AreHeld (filter_map report_of k.reports)
  pub deferred : AllPairs (λ a b. a.id < b.id) k.deferrals
  pub few : length k.deferrals ≤ 50_000
  pub filed : AllPairs (λ a b. a.id < b.id) k.releases
  pub bounds : AllByRecursion ReleaseInBounds k.releases
  pub held : length k.releases ≤ 20_000
  pub told : AllPairs (λ a b. a.release < b.release) (filter_map (alert_of k.releases) k.alerts)

-- the collections made from records, with the airline's settings
pub record AreMade (settings : Settings) (k : Kinds) (h : Held) : Type 0 where
  pub meta : h.meta ≡ k.meta
  pub reports : h.reports.reports ≡ filter_map report_of k.reports
  pub deferrals : h.deferrals.list ≡ k.deferrals
  pub releases : h.releases ≡ held_of settings k.releases
  pub alerts : h.alerts.list ≡ filter_map (alert_of k.releases) k.alerts
  pub kept : h.kept.items ≡ k.replies

abbrev pub state_by_held : TableRows → Option MetaOf → Held → State
state_by_held tables None h = start tables
state_by_held tables (Some m) h = record {
  tables = tables;
  moment = m.moment;
  counters = m.counters;
  reports = h.reports.reports;
  deferrals = h.deferrals.list;
  releases = h.releases.list;
  alerts = h.alerts.list;
  kept = h.kept.items;
  floors = m.floors;
  entries = [];
}

-- the state that the collections represent
abbrev pub state_held : TableRows → Held → State
state_held tables h = state_by_held tables h.meta h

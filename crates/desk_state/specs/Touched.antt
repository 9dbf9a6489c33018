-- Which releases an event touches: those that it changes, and active ones whose findings it may change.
use Rattle.std.specs.Prelude.{ℕ, ◌==◌, Bool, false, ◌||◌, List, find, Option, None, Some}
use Rattle.ops_tables.specs.declared.rows.Settings.{Settings}
use Rattle.facts.specs.declared.report.Report.{Report}
use Rattle.facts.specs.Same.{station_of_report}
use Rattle.deferrals.specs.declared.items.Deferral.{Deferral}
use Rattle.deferrals.specs.Held.{has_id}
use Rattle.plan.specs.declared.release.Release.{Release}
use Rattle.desk_state.specs.declared.effect.Effect.{Effect}
use Rattle.desk_state.specs.declared.effect.OnDeferrals.{OnDeferrals}
use Rattle.desk_state.specs.declared.effect.OnDeferrals.TheVariants as on_deferrals
use Rattle.release_index.specs.declared.change.OnReleases.{OnReleases}
use Rattle.release_index.specs.declared.change.OnReleases.TheVariants as on_releases
use Rattle.desk_state.specs.declared.effect.OnAlerts.{OnAlerts}
use Rattle.desk_state.specs.declared.effect.OnAlerts.TheVariants as on_alerts
use Rattle.desk_state.specs.State.{State}
pub use Rattle.release_index.specs.Touched.{passes_in, is_active_where, touched_at, touched_on, is_due_by, touched_by}

-- By each part of an event. A report touches the active releases whose plan names its station in a leg that isn't
-- flown. A deferral touches those of its aircraft, and time those for which a time rule begins to fail.

abbrev pub by_report : Option Report → Release → Bool
by_report None r = false
by_report (Some report) r = touched_at (station_of_report report) r

abbrev pub by_cleared : Option Deferral → Release → Bool
by_cleared None r = false
by_cleared (Some d) r = touched_on d.tail r

abbrev pub by_deferral : OnDeferrals → List Deferral → Release → Bool
by_deferral on_deferrals.Nothing list r = false
by_deferral (on_deferrals.Open d) list r = touched_on d.tail r
by_deferral (on_deferrals.Clear id) list r = by_cleared (find (has_id id) list) r

abbrev pub by_time : Option ℕ → Settings → ℕ → Release → Bool
by_time None settings moment r = false
by_time (Some to) settings moment r = touched_by settings moment to r

abbrev pub by_release : OnReleases → ℕ → Bool
by_release on_releases.Nothing id = false
by_release (on_releases.File r) id = id == r.id
by_release (on_releases.Put r) id = id == r.id
by_release (on_releases.Remove gone) id = false

abbrev pub by_alert : OnAlerts → ℕ → Bool
by_alert on_alerts.Nothing id = false
by_alert (on_alerts.Take gone) id = id == gone
by_alert (on_alerts.Acknowledge seen) id = id == seen

-- the releases that an event touches, once its effect is applied
abbrev pub is_touched : State → Effect → Release → Bool
is_touched s e r =
    by_report e.report r || by_deferral e.on_deferrals s.deferrals r || by_time e.moment s.tables.settings s.moment r || by_release e.on_releases r.id || by_alert e.on_alerts r.id

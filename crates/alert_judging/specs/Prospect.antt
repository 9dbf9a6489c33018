-- The state to judge: what the desk holds after an effect.
use Rattle.std.specs.Prelude.{ℕ, ◌+◌, ◌<◌, ◌==◌, true, if◌then◌else◌, List, [], ◌∷◌, ◌++◌, Option, None, Some}
use Rattle.plan.specs.declared.release.Release.{Release}
use Rattle.rules.specs.Grounds.{Grounds}
use Rattle.deferrals.specs.declared.items.Deferral.{Deferral}
use Rattle.alerts.specs.declared.alert.Alert.{Alert}
use Rattle.release_index.specs.declared.change.OnReleases.{OnReleases}
use Rattle.release_index.specs.declared.change.OnReleases.TheVariants as on_releases
use Rattle.desk_state.specs.declared.change.AlertChange.{AlertChange}
use Rattle.desk_state.specs.declared.effect.OnDeferrals.{OnDeferrals}
use Rattle.desk_state.specs.declared.effect.OnDeferrals.TheVariants as on_deferrals
use Rattle.desk_state.specs.declared.effect.OnAlerts.{OnAlerts}
use Rattle.desk_state.specs.declared.effect.OnAlerts.TheVariants as on_alerts
use Rattle.desk_state.specs.State.{State, grounds_of, failing_of, release_at, alert_at, alert_for}
use Rattle.desk_state.specs.Sound.{AreOpen}
use Rattle.desk_state.specs.Events.{effected, reports_after, change_between, changes_from, kept_alert}
use Rattle.alert_judging.specs.declared.prospect.Prospect.{Prospect}

-- a version that can be incremented
abbrev pub IsBounded : Alert → Type 0
IsBounded a = a.version < 1_000_000_000_000_000

-- the state after the effect
abbrev pub prospect : Prospect → State
prospect p = effected p.effect.now p.content.now.state

-- The facts of a judgement after the effect, except that a sweep removes nothing yet. A sweep keeps each latest
-- report, so the judgement finds the same before and after it.
abbrev pub before_sweep : Prospect → Grounds
before_sweep p = record (grounds_of (prospect p)) { reports = reports_after p.effect.now.report p.content.now.state.reports }

-- the open deferrals are within their bounds after the effect
abbrev pub AreOpenThen : Prospect → Type 0
AreOpenThen p = AreOpen (prospect p).counters.next_deferral (prospect p).deferrals

-- the deferral that an effect opens, and the one that it clears

abbrev pub deferred_of : OnDeferrals → Option Deferral
deferred_of on_deferrals.Nothing = None
deferred_of (on_deferrals.Open d) = Some d
deferred_of (on_deferrals.Clear id) = None

abbrev pub cleared_of : OnDeferrals → Option ℕ
cleared_of on_deferrals.Nothing = None
cleared_of (on_deferrals.Open d) = None
cleared_of (on_deferrals.Clear id) = Some id

-- the release with this id after an effect, given the stored one
abbrev pub release_then : OnReleases → ℕ → Option Release → Option Release
release_then on_releases.Nothing id held = held
release_then (on_releases.File r) id held = if r.id == id then Some r else held
release_then (on_releases.Put r) id held = if r.id == id then Some r else held
release_then (on_releases.Remove gone) id held = if gone == id then None else held

abbrev pub seen_by : ℕ → Option Alert → Option Alert
seen_by seen None = None
seen_by seen (Some a) = if a.release == seen then Some (record a { acknowledged = true }) else None

-- the alert of a release, if an effect acknowledges it
abbrev pub acknowledged_by : OnAlerts → Option Alert → Option Alert
acknowledged_by on_alerts.Nothing before = None
acknowledged_by (on_alerts.Take gone) before = None
acknowledged_by (on_alerts.Acknowledge seen) before = seen_by seen before

-- the alert of a release, unless an effect removes it
abbrev pub left_by : OnAlerts → ℕ → Option Alert → Option Alert
left_by on_alerts.Nothing id before = before
left_by (on_alerts.Take gone) id before = if id == gone then None else before
left_by (on_alerts.Acknowledge seen) id before = before

-- the alert of a release after it is judged
abbrev pub judged_by : Prospect → Release → Option Alert → Option Alert
judged_by p r kept = alert_for (failing_of (grounds_of (prospect p)) r) kept r (prospect p).moment

-- the changes of a release's alert, by the effect and by the judgement
abbrev pub changes_of : Prospect → Option Alert → Release → List AlertChange
changes_of p before r = change_between r.id before (kept_alert p.effect.now.on_alerts r.id before) ++ change_between r.id (kept_alert p.effect.now.on_alerts r.id before) (judged_by p r (kept_alert p.effect.now.on_alerts r.id before))

-- the changes of the alert of a release, if it was found
abbrev pub changes_found : Prospect → Option Release → List AlertChange
changes_found p None = []
changes_found p (Some r) = changes_from (prospect p) (alert_at r.id p.content.now.state.alerts) r

-- the number of releases found
abbrev pub count_found : Option Release → ℕ
count_found None = 0
count_found (Some r) = 1

-- the changes of the alerts of the releases with these ids
abbrev pub changes_named : Prospect → List ℕ → List AlertChange
changes_named p [] = []
changes_named p (id ∷ ids) = changes_found p (release_at id (prospect p).releases) ++ changes_named p ids

-- the number of releases with these ids
abbrev pub count_named : Prospect → List ℕ → ℕ
count_named p [] = 0
count_named p (id ∷ ids) = count_found (release_at id (prospect p).releases) + count_named p ids

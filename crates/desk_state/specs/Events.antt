-- The state after an event, part by part, and the alerts that the event changes.
use Rattle.std.specs.Prelude.{ℕ, ◌+◌, ◌==◌, not, nat_lt, Bool, true, false, ◌&&◌, if◌then◌else◌, List, [], ◌∷◌, ◌++◌, map, filter, Option, None, Some}
use Rattle.std.specs.List.{filter_map, cons_option}
use Rattle.std.specs.Option.{option_map}
use Rattle.asks.specs.declared.kept.Floor.{Floor}
use Rattle.asks.specs.declared.kept.KeptReply.{KeptReply}
use Rattle.facts.specs.Swept.{swept}
use Rattle.facts.specs.declared.report.Report.{Report}
use Rattle.plan.specs.declared.release.Release.{Release}
use Rattle.alerts.specs.declared.alert.Alert.{Alert}
use Rattle.alerts.specs.declared.notices.Notice.{Notice}
use Rattle.alerts.specs.Notices.{notice_of}
use Rattle.deferrals.specs.declared.items.Deferral.{Deferral}
use Rattle.deferrals.specs.Held.{without}
use Rattle.desk_state.specs.declared.change.AlertChange.{AlertChange}
use Rattle.desk_state.specs.declared.counters.Counters.{Counters}
use Rattle.desk_state.specs.declared.effect.Effect.{Effect}
use Rattle.desk_state.specs.declared.effect.Sweep.{Sweep}
use Rattle.desk_state.specs.declared.effect.OnDeferrals.{OnDeferrals}
use Rattle.desk_state.specs.declared.effect.OnDeferrals.TheVariants as deferrals
use Rattle.release_index.specs.declared.change.OnReleases.{OnReleases}
use Rattle.release_index.specs.declared.change.OnReleases.TheVariants as releases
use Rattle.desk_state.specs.declared.effect.OnAlerts.{OnAlerts}
use Rattle.desk_state.specs.declared.effect.OnAlerts.TheVariants as alerts
use Rattle.desk_state.specs.State.{State, alert_at, judged}
pub use Rattle.kept_replies.specs.Requests.{is_since}
pub use Rattle.release_index.specs.Changes.{put_release, without_release, releases_after}

-- Each part after an effect.

abbrev pub moment_after : Option ℕ → ℕ → ℕ
moment_after None moment = moment
moment_after (Some to) moment = to

abbrev pub reports_after : Option Report → List Report → List Report
reports_after None reports = reports
reports_after (Some report) reports = reports ++ report ∷ []

-- the reports that stay after a sweep
abbrev pub reports_swept : Option Sweep → List Report → List Report
reports_swept None reports = reports
reports_swept (Some w) reports = swept w.before w.attached reports

-- the kept replies that stay after a sweep
abbrev pub kept_after : Option Sweep → List KeptReply → List KeptReply
kept_after None kept = kept
kept_after (Some w) kept = filter (is_since w.before) kept

abbrev pub floors_after : Option Sweep → List Floor → List Floor
floors_after None floors = floors
floors_after (Some w) floors = w.floors

abbrev pub deferrals_after : OnDeferrals → List Deferral → List Deferral
deferrals_after deferrals.Nothing list = list
deferrals_after (deferrals.Open d) list = list ++ d ∷ []
deferrals_after (deferrals.Clear id) list = without id list

-- the alerts without those of a release
abbrev pub without_alert : ℕ → List Alert → List Alert
without_alert id list = filter (λ a. not (a.release == id)) list

-- an alert, acknowledged if it belongs to this release
abbrev pub acknowledged_if : ℕ → Alert → Alert
acknowledged_if id a = if a.release == id then record a { acknowledged = true } else a

abbrev pub alerts_after : OnAlerts → List Alert → List Alert
alerts_after alerts.Nothing list = list
alerts_after (alerts.Take id) list = without_alert id list
alerts_after (alerts.Acknowledge id) list = map (acknowledged_if id) list

-- the alert of a release after an effect, before the judgement
abbrev pub kept_alert : OnAlerts → ℕ → Option Alert → Option Alert
kept_alert alerts.Nothing id before = before
kept_alert (alerts.Take gone) id before = if id == gone then None else before
kept_alert (alerts.Acknowledge seen) id before = option_map (acknowledged_if seen) before

-- The next ids.

abbrev pub next_report : Option Report → ℕ → ℕ
next_report None next = next
next_report (Some report) next = report.id + 1

abbrev pub next_deferral : OnDeferrals → ℕ → ℕ
next_deferral deferrals.Nothing next = next
next_deferral (deferrals.Open d) next = d.id + 1
next_deferral (deferrals.Clear id) next = next

abbrev pub next_release : OnReleases → ℕ → ℕ
next_release releases.Nothing next = next
next_release (releases.File r) next = r.id + 1
next_release (releases.Put r) next = next
next_release (releases.Remove id) next = next

abbrev pub counters_after : Effect → Counters → Counters
counters_after e c = record c {
  next_report = next_report e.report c.next_report;
  next_deferral = next_deferral e.on_deferrals c.next_deferral;
  next_release = next_release e.on_releases c.next_release;
}

-- the state after an effect, before any release is judged
abbrev pub effected : Effect → State → State
effected e s = record s {
  moment = moment_after e.moment s.moment;
  counters = counters_after e s.counters;
  reports = reports_swept e.sweep (reports_after e.report s.reports);
  deferrals = deferrals_after e.on_deferrals s.deferrals;
  releases = releases_after e.on_releases s.releases;
  alerts = alerts_after e.on_alerts s.alerts;
  kept = kept_after e.sweep s.kept;
  floors = floors_after e.sweep s.floors;
}

abbrev pub is_same_mark : Bool → Bool → Bool
is_same_mark true mark = mark
is_same_mark false mark = not mark

-- two alerts have the same version, and both or neither are acknowledged
abbrev pub is_same_alert : Alert → Alert → Bool
is_same_alert a b = (a.version == b.version) && is_same_mark a.acknowledged b.acknowledged

abbrev change : ℕ → Option Alert → Option Alert → AlertChange
change id before after = record { release = id; before = before; after = after }

-- the change of a release's alert, or none if its version and acknowledgement are the same
abbrev pub change_between : ℕ → Option Alert → Option Alert → List AlertChange
change_between id None None = []
change_between id None (Some b) = change id None (Some b) ∷ []
change_between id (Some a) None = change id (Some a) None ∷ []
change_between id (Some a) (Some b) = if is_same_alert a b then [] else change id (Some a) (Some b) ∷ []

-- The changes of a release's alert: first by the effect, then by the judgement.
abbrev pub changes_from : State → Option Alert → Release → List AlertChange
changes_from t before r = change_between r.id before (alert_at r.id t.alerts) ++ change_between r.id (alert_at r.id t.alerts) (judged t r)

abbrev pub changes_over : State → List Alert → List Release → List AlertChange
changes_over t held [] = []
changes_over t held (r ∷ rs) = changes_from t (alert_at r.id held) r ++ changes_over t held rs

-- the changes of all alerts by an effect and the judgement after it, in order of the releases
abbrev pub alert_changes : Effect → State → List AlertChange
alert_changes effect s = changes_over (effected effect s) s.alerts (effected effect s).releases

-- the notices that dispatchers get of the changes of alerts
abbrev pub notices_of : List AlertChange → List Notice
notices_of changes = filter_map (λ c. notice_of c.before c.after) changes

-- the alerts with that of a release inserted, replaced or removed
abbrev pub put_alert : ℕ → Option Alert → List Alert → List Alert
put_alert id alert [] = cons_option alert []
put_alert id alert (a ∷ rest) =
    if a.release == id then cons_option alert rest else (if nat_lt id a.release then cons_option alert (a ∷ rest) else a ∷ put_alert id alert rest)

-- the alerts after changes, applied in order
abbrev pub put_changes : List AlertChange → List Alert → List Alert
put_changes [] held = held
put_changes (c ∷ cs) held = put_changes cs (put_alert c.release c.after held)

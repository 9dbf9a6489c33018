-- An event changes the alerts of the releases that it touches, and of no others.
use Rattle.std.proofs.Common.{◌≡◌, ℕ, Bool, true, false, not, cond, eqb, ◌&&◌, ◌||◌, List, [], ◌∷◌, ◌++◌, filter, find, Option, None, Some, IfSome, refl, ap, ◌∙◌, subst, eq-eqb}
use Rattle.std.proofs.lemmas.Bool.{and_from, or_parts, leb-false}
use Rattle.std.specs.Option.{option_map}
use Rattle.std.specs.List.{AllByRecursion}
use Rattle.facts.specs.Same.{station_of_report}
use Rattle.facts.specs.declared.report.Report.{Report}
use Rattle.deferrals.specs.declared.items.Deferral.{Deferral}
use Rattle.deferrals.specs.Held.{AreRising, has_id, without}
use Rattle.plan.specs.Phases.{is_active}
use Rattle.plan.specs.declared.findings.Finding.{Finding}
use Rattle.plan.specs.declared.flights.Plan.{Plan}
use Rattle.plan.specs.declared.release.Phase.{Phase}
use Rattle.plan.specs.declared.release.Release.{Release}
use Rattle.plan.specs.declared.release.Revision.{Revision}
use Rattle.alerts.specs.declared.alert.Alert.{Alert}
use Rattle.alerts.specs.Alerts.{alert_once_open, are_same}
use Rattle.alerts.proofs.Laws.{all_same}
use Rattle.release_index.specs.Below.{Grounds, findings_of, with_reports, with_deferrals, names_station, is_of_tail, next_due, IsBeforeDue, at_moment}
use Rattle.release_index.proofs.Below.{findings_swept, next_due_is, one_of_id, ignores_report, ignores_deferral, ignores_clearing, stays_until}
use Rattle.desk_state.specs.declared.effect.Effect.{Effect}
use Rattle.desk_state.specs.declared.effect.Sweep.{Sweep}
use Rattle.desk_state.specs.declared.effect.OnAlerts.{OnAlerts}
use Rattle.desk_state.specs.declared.effect.OnAlerts.TheVariants as on_alerts
use Rattle.desk_state.specs.declared.effect.OnDeferrals.{OnDeferrals}
use Rattle.desk_state.specs.declared.effect.OnDeferrals.TheVariants as on_deferrals
use Rattle.release_index.specs.declared.change.OnReleases.{OnReleases}
use Rattle.release_index.specs.declared.change.OnReleases.TheVariants as on_releases
use Rattle.desk_state.specs.State.{State, grounds_of, failing_if, failing_in, failing_of, alert_at, alert_for}
use Rattle.desk_state.specs.Events.{effected, moment_after, reports_after, reports_swept, deferrals_after, releases_after, acknowledged_if, kept_alert, is_same_mark, is_same_alert, change_between, changes_from, changes_over, alert_changes}
use Rattle.desk_state.specs.Sound.{Sound, Matches, IsAlerted, IsLater, EffectFits}
use Rattle.desk_state.specs.Touched.{passes_in, is_due_by, by_report, by_cleared, by_deferral, by_time, by_release, by_alert, is_touched}
use Rattle.desk_state.proofs.Each.{put_each, without_each}
use Rattle.desk_state.proofs.Judging.{IsOf, found_of, alerts_kept}
use Rattle.desk_io.proofs.Each.{each_push, each_weaker}

once_same : (b : Bool) (a : Alert) (fs : List Finding) → are_same a.failing fs ≡ b → a.failing ≡ fs → alert_once_open b a fs ≡ a
once_same true a fs e is = refl
once_same false a fs e is = let same : are_same a.failing fs ≡ true = subst (λ (hs : List Finding). are_same a.failing hs ≡ true) is (all_same a.failing) in absurd (cc)

-- an alert that is as its rules ask stays as it is where a judgement finds the same
stays : (o : Option Alert) (r : Release) (failing : Option (List Finding)) (moment : ℕ) → Matches o failing → alert_for failing o r moment ≡ o
stays None r None moment is = refl
stays (Some a) r None moment is = absurd is
stays None r (Some []) moment is = refl
stays None r (Some (f ∷ fs)) moment is = absurd (cc)
stays (Some a) r (Some []) moment is = ap Some (once_same (are_same a.failing []) a [] refl is)
stays (Some a) r (Some (f ∷ fs)) moment is = ap Some (once_same (are_same a.failing (f ∷ fs)) a (f ∷ fs) refl is)

mark_same : (mark : Bool) → is_same_mark mark mark ≡ true
mark_same true = refl
mark_same false = refl

alert_same : (a : Alert) → is_same_alert a a ≡ true
alert_same a = and_from (eqb a.version a.version) (is_same_mark a.acknowledged a.acknowledged) (eq-eqb a.version a.version refl) (mark_same a.acknowledged)

no_change : (id : ℕ) (o : Option Alert) → change_between id o o ≡ []
no_change id None = refl
no_change id (Some a) = rw (alert_same a) refl

-- Nothing becomes of the alert of a release that was as its rules ask, where the findings stay and the effect leaves it.
pub nothing_becomes : (s t : State) (r : Release) → IsAlerted (grounds_of s) s.alerts r → failing_of (grounds_of t) r ≡ failing_of (grounds_of s) r
    → alert_at r.id t.alerts ≡ alert_at r.id s.alerts → changes_from t (alert_at r.id s.alerts) r ≡ []
nothing_becomes s t r alerted same kept =
    let before : Option Alert = alert_at r.id s.alerts in
    let judged_same : alert_for (failing_of (grounds_of t) r) before r t.moment ≡ before = ap (λ f. alert_for f before r t.moment) same ∙ stays before r (failing_of (grounds_of s) r) t.moment alerted.0 in
    ap (λ o. change_between r.id before o ++ change_between r.id o (alert_for (failing_of (grounds_of t) r) o r t.moment)) kept
    ∙ ap (λ o. change_between r.id before before ++ change_between r.id before o) judged_same
    ∙ ap (λ cs. cs ++ cs) (no_change r.id before)

over_by : (t : State) (held : List Alert) (touched : Release → Bool) (r : Release) (rs : List Release) (b : Bool) → touched r ≡ b
    → (touched r ≡ false → changes_from t (alert_at r.id held) r ≡ []) → changes_over t held rs ≡ changes_over t held (filter touched rs)
    → changes_over t held (r ∷ rs) ≡ changes_over t held (cond b (r ∷ filter touched rs) (filter touched rs))
over_by t held touched r rs true e none rest = ap (λ cs. changes_from t (alert_at r.id held) r ++ cs) rest
over_by t held touched r rs false e none rest = ap (λ cs. cs ++ changes_over t held rs) (none e) ∙ rest

-- the changes of the alerts are those of the releases that pass a test, where nothing becomes of those of others
pub over_some : (t : State) (held : List Alert) (touched : Release → Bool) (rs : List Release)
    → AllByRecursion (λ r. touched r ≡ false → changes_from t (alert_at r.id held) r ≡ []) rs → changes_over t held rs ≡ changes_over t held (filter touched rs)
over_some t held touched [] all = refl
over_some t held touched (r ∷ rs) all = over_by t held touched r rs (touched r) refl all.0 (over_some t held touched rs all.1)

-- ---- findings

-- the findings of an active plan stay where they do for each plan that doesn't pass a test, and it doesn't
failing_by : (g h : Grounds) (test : Plan → Phase → Bool) (v : Revision) (phase : Phase) (b : Bool)
    → ((plan : Plan) → test plan phase ≡ false → findings_of plan phase h ≡ findings_of plan phase g) → (b && test v.plan phase) ≡ false
    → failing_if b h v phase ≡ failing_if b g v phase
failing_by g h test v phase true same fails = ap (λ fs. Some fs) (same v.plan fails)
failing_by g h test v phase false same fails = refl

failing_same : (g h : Grounds) (test : Plan → Phase → Bool) (active : Option Revision) (phase : Phase)
    → ((plan : Plan) → test plan phase ≡ false → findings_of plan phase h ≡ findings_of plan phase g) → passes_in test active phase ≡ false
    → failing_in h active phase ≡ failing_in g active phase
failing_same g h test None phase same fails = refl
failing_same g h test (Some v) phase same fails = failing_by g h test v phase (is_active phase) same fails

report_same : (g : Grounds) (o : Option Report) (r : Release) → by_report o r ≡ false → failing_of (with_reports g (reports_after o g.reports)) r ≡ failing_of g r
report_same g None r untouched = refl
report_same g (Some report) r untouched =
    failing_same g (with_reports g (g.reports ++ report ∷ [])) (λ plan phase. names_station plan phase (station_of_report report)) r.active r.phase
    (λ plan fails. ignores_report plan r.phase (station_of_report report) fails g report refl) untouched

swept_by : (g : Grounds) (w : Sweep) (v : Revision) (phase : Phase) (b : Bool) → failing_if b (with_reports g (reports_swept (Some w) g.reports)) v phase ≡ failing_if b g v phase
swept_by g w v phase true = ap (λ fs. Some fs) (findings_swept v.plan phase g w.before w.attached)
swept_by g w v phase false = refl

swept_same : (g : Grounds) (o : Option Sweep) (active : Option Revision) (phase : Phase) → failing_in (with_reports g (reports_swept o g.reports)) active phase ≡ failing_in g active phase
swept_same g None active phase = refl
swept_same g (Some w) None phase = refl
swept_same g (Some w) (Some v) phase = swept_by g w v phase (is_active phase)

-- where none has an id, all stay without it
without_by : (id : ℕ) (d : Deferral) (ds : List Deferral) (b : Bool) → cond b (Some d) (find (has_id id) ds) ≡ None → (find (has_id id) ds ≡ None → without id ds ≡ ds)
    → cond (not b) (d ∷ without id ds) (without id ds) ≡ d ∷ ds
without_by id d ds true none rest = absurd (cc)
without_by id d ds false none rest = ap (λ list. d ∷ list) (rest none)

without_none : (id : ℕ) (ds : List Deferral) → find (has_id id) ds ≡ None → without id ds ≡ ds
without_none id [] none = refl
without_none id (d ∷ ds) none = without_by id d ds (eqb d.id id) none (without_none id ds)

cleared_same : (g : Grounds) (id : ℕ) (o : Option Deferral) (r : Release) → find (has_id id) g.deferrals ≡ o → AreRising g.deferrals → by_cleared o r ≡ false
    → failing_of (with_deferrals g (without id g.deferrals)) r ≡ failing_of g r
cleared_same g id None r none rising untouched = ap (λ ds. failing_of (with_deferrals g ds) r) (without_none id g.deferrals none)
cleared_same g id (Some d) r found rising untouched =
    failing_same g (with_deferrals g (without id g.deferrals)) (λ plan phase. is_of_tail plan d.tail) r.active r.phase
    (λ plan fails. ignores_clearing plan d.tail fails r.phase g id
    (one_of_id id d g.deferrals rising found)) untouched

deferral_same : (g : Grounds) (on : OnDeferrals) (r : Release) → AreRising g.deferrals → by_deferral on g.deferrals r ≡ false
    → failing_of (with_deferrals g (deferrals_after on g.deferrals)) r ≡ failing_of g r
deferral_same g on_deferrals.Nothing r rising untouched = refl
deferral_same g (on_deferrals.Open d) r rising untouched =
    failing_same g (with_deferrals g (g.deferrals ++ d ∷ [])) (λ plan phase. is_of_tail plan d.tail) r.active r.phase
    (λ plan fails. ignores_deferral plan d.tail fails r.phase g d refl) untouched
deferral_same g (on_deferrals.Clear id) r rising untouched = cleared_same g id (find (has_id id) g.deferrals) r refl rising untouched

before_due : (minute : ℕ) (due : Option ℕ) → is_due_by minute due ≡ false → IsBeforeDue minute due
before_due minute None e = tt
before_due minute (Some due) e = leb-false due minute e

time_same : (g : Grounds) (o : Option ℕ) (r : Release) → IfSome o (IsLater g.moment) → by_time o g.tables.settings g.moment r ≡ false
    → failing_of (at_moment g (moment_after o g.moment)) r ≡ failing_of g r
time_same g None r later untouched = refl
time_same g (Some to) r later untouched =
    failing_same g (at_moment g to) (λ plan phase. is_due_by to (next_due plan phase g.tables.settings g.moment)) r.active r.phase
    (λ plan fails. stays_until plan r.phase g (next_due plan r.phase g.tables.settings g.moment) (next_due_is plan r.phase g.tables.settings g.moment) to later.1
    (before_due to (next_due plan r.phase g.tables.settings g.moment) fails)) untouched

-- ---- an event

-- what isn't touched is touched by no part of an event
record IsSpared (s : State) (e : Effect) (r : Release) : Type 0 where
  report : by_report e.report r ≡ false
  deferral : by_deferral e.on_deferrals s.deferrals r ≡ false
  time : by_time e.moment s.tables.settings s.moment r ≡ false
  release : by_release e.on_releases r.id ≡ false
  alert : by_alert e.on_alerts r.id ≡ false

spared : (s : State) (e : Effect) (r : Release) → is_touched s e r ≡ false → IsSpared s e r
spared s e r untouched =
    let a = or_parts (by_report e.report r || by_deferral e.on_deferrals s.deferrals r || by_time e.moment s.tables.settings s.moment r || by_release e.on_releases r.id) (by_alert e.on_alerts r.id) untouched in
    let b = or_parts (by_report e.report r || by_deferral e.on_deferrals s.deferrals r || by_time e.moment s.tables.settings s.moment r) (by_release e.on_releases r.id) a.0 in
    let c = or_parts (by_report e.report r || by_deferral e.on_deferrals s.deferrals r) (by_time e.moment s.tables.settings s.moment r) b.0 in
    let d = or_parts (by_report e.report r) (by_deferral e.on_deferrals s.deferrals r) c.0 in
    record { report = d.0; deferral = d.1; time = c.1; release = b.1; alert = a.1 }

-- the findings of a release that is spared stay
grounds_same : (s : State) (e : Effect) (r : Release) → IfSome e.moment (IsLater s.moment) → AreRising s.deferrals → IsSpared s e r
    → failing_of (grounds_of (effected e s)) r ≡ failing_of (grounds_of s) r
grounds_same s e r later rising is =
    let g : Grounds = grounds_of s in
    let reported : Grounds = with_reports g (reports_after e.report g.reports) in
    let after_sweep : Grounds = with_reports reported (reports_swept e.sweep reported.reports) in
    let deferred : Grounds = with_deferrals after_sweep (deferrals_after e.on_deferrals after_sweep.deferrals) in
    time_same deferred e.moment r later is.time
    ∙ deferral_same after_sweep e.on_deferrals r rising is.deferral
    ∙ swept_same reported e.sweep r.active r.phase
    ∙ report_same g e.report r is.report

-- an effect leaves the alert of a release that is spared

seen_other : (seen id : ℕ) (o : Option Alert) → IfSome o (IsOf id) → eqb id seen ≡ false → option_map (acknowledged_if seen) o ≡ o
seen_other seen id None of other = refl
seen_other seen id (Some a) of other =
    ap (λ b. Some (cond b (record a { acknowledged = true }) a)) (ap (λ n. eqb n seen) of ∙ other)

kept_other : (on : OnAlerts) (id : ℕ) (o : Option Alert) → IfSome o (IsOf id) → by_alert on id ≡ false → kept_alert on id o ≡ o
kept_other on_alerts.Nothing id o of other = refl
kept_other (on_alerts.Take gone) id o of other = rw other refl
kept_other (on_alerts.Acknowledge seen) id o of other = seen_other seen id o of other

alert_left : (s : State) (e : Effect) (id : ℕ) → by_alert e.on_alerts id ≡ false → alert_at id (effected e s).alerts ≡ alert_at id s.alerts
alert_left s e id other = alerts_kept e.on_alerts id s.alerts ∙ kept_other e.on_alerts id (alert_at id s.alerts) (found_of id s.alerts) other

abbrev Nothing : State → Effect → Release → Type 0
Nothing s e r = is_touched s e r ≡ false → changes_from (effected e s) (alert_at r.id s.alerts) r ≡ []

of_held : (s : State) (e : Effect) → EffectFits s e → AreRising s.deferrals → (r : Release) → IsAlerted (grounds_of s) s.alerts r → Nothing s e r
of_held s e fits rising r alerted untouched =
    let is = spared s e r untouched in
    nothing_becomes s (effected e s) r alerted (grounds_same s e r fits.moment rising is) (alert_left s e r.id is.alert)

-- the release that an event files or puts is touched
of_new : (s : State) (e : Effect) (r : Release) → by_release e.on_releases r.id ≡ true → Nothing s e r
of_new s e r new untouched = let is = spared s e r untouched in let other : by_release e.on_releases r.id ≡ false = is.release in absurd (cc)

of_all : (s : State) (e : Effect) (on : OnReleases) → e.on_releases ≡ on → AllByRecursion (Nothing s e) s.releases → AllByRecursion (Nothing s e) (releases_after on s.releases)
of_all s e on_releases.Nothing is held = held
of_all s e (on_releases.File r) is held = each_push (Nothing s e) s.releases r held (of_new s e r (ap (λ on. by_release on r.id) is ∙ eq-eqb r.id r.id refl))
of_all s e (on_releases.Put r) is held = put_each (Nothing s e) r s.releases held (of_new s e r (ap (λ on. by_release on r.id) is ∙ eq-eqb r.id r.id refl))
of_all s e (on_releases.Remove id) is held = without_each (Nothing s e) id s.releases held

-- The changes of the alerts by an event are those of the releases that it touches.
pub touched_changes : (s : State) (e : Effect) → Sound s → AreRising s.deferrals → EffectFits s e
    → alert_changes e s ≡ changes_over (effected e s) s.alerts (filter (is_touched s e) (effected e s).releases)
touched_changes s e sound rising fits =
    over_some (effected e s) s.alerts (is_touched s e) (effected e s).releases
    (of_all s e e.on_releases refl (each_weaker (IsAlerted (grounds_of s) s.alerts) (Nothing s e) (of_held s e fits rising) s.releases sound.alerted))

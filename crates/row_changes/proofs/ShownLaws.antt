-- What an event changes can be put into rows.
use Rattle.std.proofs.Common.{◌≡◌, ℕ, Bool, true, false, cond, List, [], ◌∷◌, Option, None, Some, IfSome, All, sym, subst, arith}
use Rattle.std.specs.Prelude.{◌==◌}
use Rattle.std.specs.List.{AllByRecursion}
use Rattle.std.proofs.lemmas.List.Elements.{All-from_recursion}
use Rattle.asks.specs.declared.kept.KeptReply.{KeptReply}
use Rattle.asks.specs.declared.reply.Reply.TheVariants.{Done, Seen, Refused}
use Rattle.alerts.specs.declared.alert.Alert.{Alert}
use Rattle.alerts.specs.Alerts.{IsAlert, alert_once_open}
use Rattle.facts.specs.declared.report.Report.{Report}
use Rattle.desk_time.specs.Limits.{IsMoment}
use Rattle.plan.specs.declared.findings.Finding.{Finding}
use Rattle.plan.specs.declared.release.Release.{Release}
use Rattle.plan.specs.declared.release.Revision.{Revision}
use Rattle.release_json.specs.Rows.{ReleaseHasMoments, RevisionHasMoments}
use Rattle.desk_state.specs.declared.change.AlertChange.{AlertChange}
use Rattle.desk_state.specs.declared.effect.Effect.{Effect}
use Rattle.desk_state.specs.declared.effect.OnDeferrals.{OnDeferrals}
use Rattle.desk_state.specs.declared.effect.OnDeferrals.TheVariants as on_deferrals
use Rattle.release_index.specs.declared.change.OnReleases.{OnReleases}
use Rattle.release_index.specs.declared.change.OnReleases.TheVariants as on_releases
use Rattle.desk_state.specs.declared.entry.What.{What}
use Rattle.desk_state.specs.declared.entry.What.TheVariants as what
use Rattle.desk_state.specs.Events.{effected, is_same_alert, change_between, changes_from, changes_over, alert_changes}
use Rattle.desk_state.specs.Holds.{Holds}
use Rattle.desk_state.specs.Sound.{AreJudgeable, InBounds, EffectFits, IsNext, DeferralsFit, ReleasesFit, ReleaseInBounds, RevisionInBounds}
use Rattle.desk_state.specs.State.{State, grounds_of, failing_of, alert_at, alert_for, judged}
use Rattle.desk_state.specs.Step.{kept_of}
use Rattle.desk_state.proofs.Each.{found_each}
use Rattle.desk_state.proofs.Judging.{alerts_have}
use Rattle.desk_state.proofs.Parts.{moment_shown}
use Rattle.row_changes.specs.Shown.{IsSmallReport, IsSmallDeferral, IsSmallRelease, AreSmall, WasReceived, WasFound, IsShownRelease, WasAccepted, WasOpened, AreShown}
use Rattle.desk_io.proofs.Each.{each_append, each_weaker}

-- Numbers.

small_report : (s : State) (o : Option Report) → IfSome o (IsNext s) → InBounds s → IsSmallReport o
small_report s None fits bounds = tt
small_report s (Some r) fits bounds = let is = fits.is_new in let one = bounds.counters.report in let most = bounds.counters.events in omega (arith, is, one, most)

small_deferral : (s : State) (on : OnDeferrals) → DeferralsFit s on → InBounds s → IsSmallDeferral on
small_deferral s on_deferrals.Nothing fits bounds = tt
small_deferral s (on_deferrals.Open d) fits bounds = let is = fits.is_new in let one = bounds.counters.deferral in let most = bounds.counters.events in omega (arith, is, one, most)
small_deferral s (on_deferrals.Clear id) fits bounds = tt

small_release : (s : State) (on : OnReleases) → ReleasesFit s on → InBounds s → IsSmallRelease on
small_release s on_releases.Nothing fits bounds = tt
small_release s (on_releases.File r) fits bounds = let is = fits.numbered in let one = bounds.counters.release in let most = bounds.counters.events in omega (arith, is, one, most)
small_release s (on_releases.Put r) fits bounds = tt
small_release s (on_releases.Remove id) fits bounds = tt

pub are_small : (s : State) (effect : Effect) → EffectFits s effect → InBounds s → AreSmall s.counters effect
are_small s effect fits bounds = record {
  events = let most = bounds.counters.events in omega (arith, most);
  accepted = let one = bounds.counters.accepted in let most = bounds.counters.events in omega (arith, one, most);
  report = small_report s effect.report fits.report bounds;
  deferral = small_deferral s effect.on_deferrals fits.deferrals bounds;
  release = small_release s effect.on_releases fits.releases bounds;
}

-- Moments.

was_received : (s : State) (o : Option Report) → IfSome o (IsNext s) → WasReceived o
was_received s None fits = tt
was_received s (Some r) fits = fits.received

was_found : (s : State) (on : OnDeferrals) → DeferralsFit s on → WasFound on
was_found s on_deferrals.Nothing fits = tt
was_found s (on_deferrals.Open d) fits = fits.found
was_found s (on_deferrals.Clear id) fits = tt

revision_shown : (o : Option Revision) → IfSome o RevisionInBounds → IfSome o RevisionHasMoments
revision_shown None is = tt
revision_shown (Some v) is = record { is_plan = is.is_plan; dispatcher = is.dispatcher; captain = is.captain }

pub release_shown : (r : Release) → ReleaseInBounds r → ReleaseHasMoments r
release_shown r is = record { moment = is.moment; pending = revision_shown r.pending is.pending; active = revision_shown r.active is.active }

shown_release : (s : State) (on : OnReleases) → ReleasesFit s on → IsShownRelease on
shown_release s on_releases.Nothing fits = tt
shown_release s (on_releases.File r) fits = release_shown r fits.fits.kept
shown_release s (on_releases.Put r) fits = release_shown r fits.fits.kept
shown_release s (on_releases.Remove id) fits = tt

was_accepted : (t : State) (w : What) → IsMoment t.moment → WasAccepted (kept_of t w)
was_accepted t (what.Tick to) shown = tt
was_accepted t (what.Asked call (Done done)) shown = shown
was_accepted t (what.Asked call (Seen text)) shown = tt
was_accepted t (what.Asked call (Refused refusal)) shown = tt

-- Alerts.

abbrev pub Opened : Alert → Type 0
Opened a = IsMoment a.opened

abbrev ChangesOpened : List AlertChange → Type 0
ChangesOpened changes = AllByRecursion (λ c. WasOpened c.after) changes

between_opened : (id : ℕ) (before after : Option Alert) → WasOpened after → ChangesOpened (change_between id before after)
between_opened id None None is = tt
between_opened id None (Some b) is = (is, tt)
between_opened id (Some a) None is = (tt, tt)
between_opened id (Some a) (Some b) is = by (is_same_alert a b)
  where
    by : (same : Bool) → ChangesOpened (cond same [] (record { release = id; before = Some a; after = Some b } ∷ []))
    by true = tt
    by false = (is, tt)

once_opened : (b : Bool) (a : Alert) (findings : List Finding) → Opened a → Opened (alert_once_open b a findings)
once_opened true a findings is = is
once_opened false a findings is = is

judged_opened : (failing : Option (List Finding)) (old : Option Alert) (r : Release) (moment : ℕ) → IsMoment moment → WasOpened old → WasOpened (alert_for failing old r moment)
judged_opened None old r moment shown is = tt
judged_opened (Some []) None r moment shown is = tt
judged_opened (Some (f ∷ fs)) None r moment shown is = shown
judged_opened (Some fs) (Some a) r moment shown is = once_opened _ a fs is

pub over_opened : (t : State) (held : List Alert) (rs : List Release) → IsMoment t.moment → AllByRecursion Opened t.alerts → ChangesOpened (changes_over t held rs)
over_opened t held [] shown all = tt
over_opened t held (r ∷ rs) shown all =
    let found = found_each Opened (λ a. a.release == r.id) t.alerts all in
    each_append (λ c. WasOpened c.after) (changes_from t (alert_at r.id held) r) (changes_over t held rs)
    (each_append (λ c. WasOpened c.after) (change_between r.id (alert_at r.id held) (alert_at r.id t.alerts)) (change_between r.id (alert_at r.id t.alerts) (judged t r))
    (between_opened r.id (alert_at r.id held) (alert_at r.id t.alerts) found)
    (between_opened r.id (alert_at r.id t.alerts) (judged t r) (judged_opened (failing_of (grounds_of t) r) (alert_at r.id t.alerts) r t.moment shown found)))
    (over_opened t held rs shown all)

opened_after : (s : State) (effect : Effect) → AreJudgeable s → AllByRecursion Opened (effected effect s).alerts
opened_after s effect judgeable = alerts_have Opened (λ a is. is) effect.on_alerts s.alerts (each_weaker (IsAlert s.counters.events) Opened (λ a is. is.moment) s.alerts judgeable.alerts)

pub are_shown : (s : State) (effect : Effect) (w : What) (kept : Option KeptReply) (alerts : List AlertChange) → Holds s → EffectFits s effect
    → kept ≡ kept_of (effected effect s) w → alerts ≡ alert_changes effect s → AreShown s effect kept alerts
are_shown s effect w kept alerts holds fits same changed =
    let shown = moment_shown effect.moment s.moment fits.moment holds.bounds.moment in
    record {
      moment = shown;
      small = are_small s effect fits holds.bounds;
      received = was_received s effect.report fits.report;
      apart = fits.apart;
      found = was_found s effect.on_deferrals fits.deferrals;
      release = shown_release s effect.on_releases fits.releases;
      accepted = subst WasAccepted (sym same) (was_accepted (effected effect s) w shown);
      opened = subst (λ (changes : List AlertChange). All (λ c. WasOpened c.after) changes) (sym changed)
          (All-from_recursion (λ c. WasOpened c.after) (alert_changes effect s) (over_opened (effected effect s) s.alerts (effected effect s).releases shown (opened_after s effect holds.judgeable)));
    }

-- The releases, the alerts and the deferrals once an effect is there.
use Rattle.std.proofs.Common.{◌≡◌, ℕ, ◌+◌, Bool, true, false, cond, eqb, ◌==◌, ◌||◌, List, [], ◌∷◌, ◌++◌, Option, None, Some, IfSome, refl, ap, sym, ◌∙◌, subst, arith, eq-eqb}
use Rattle.std.proofs.lemmas.Bool.{eqb-true}
use Rattle.std.specs.List.{list_any}
use Rattle.plan.specs.declared.release.Release.{Release}
use Rattle.alerts.specs.declared.alert.Alert.{Alert}
use Rattle.alerts.specs.Alerts.{IsAlert}
use Rattle.release_index.specs.declared.change.OnReleases.{OnReleases}
use Rattle.release_index.specs.declared.change.OnReleases.TheVariants as on_releases
use Rattle.desk_io.proofs.Each.{each_weaker}
use Rattle.desk_state.specs.declared.effect.OnAlerts.{OnAlerts}
use Rattle.desk_state.specs.declared.effect.OnAlerts.TheVariants as on_alerts
use Rattle.desk_state.specs.Events.{releases_after, put_release, without_release, kept_alert, change_between}
use Rattle.desk_state.specs.Holds.{Holds}
use Rattle.desk_state.specs.Sound.{EffectFits, IsTaken, ReleaseInBounds, ReleasesFit, Rise}
use Rattle.desk_state.specs.State.{State, alert_at, release_at}
use Rattle.desk_state.proofs.Each.{found_each}
use Rattle.desk_state.proofs.Judging.{alerts_kept, kept_has, rise_bound}
use Rattle.desk_state.proofs.Parts.{deferrals_open, releases_kept}
use Rattle.alert_judging.specs.declared.prospect.Prospect.{Prospect}
use Rattle.alert_judging.specs.Prospect.{AreOpenThen, IsBounded, prospect, acknowledged_by, left_by, judged_by, changes_of, changes_found, release_then}
use Rattle.alert_judging.proofs.Named.{above_none}

-- the deferrals may be open once the effect is there
pub open_then : (p : Prospect) → EffectFits p.content.now.state p.effect.now → Holds p.content.now.state → AreOpenThen p
open_then p fits held = deferrals_open p.content.now.state p.effect.now.on_deferrals fits.deferrals held.bounds.deferrals

-- The release of an id.

found_pushed : (id : ℕ) (r : Release) (low : ℕ) (rs : List Release) (next : ℕ) → Rise low rs next → r.id ≡ next
    → release_at id (rs ++ r ∷ []) ≡ cond (eqb r.id id) (Some r) (release_at id rs)
found_pushed id r low [] next rise is = refl
found_pushed id r low (q ∷ qs) next rise is = by (eqb q.id id) (eqb r.id id) refl refl (found_pushed id r (q.id + 1) qs next rise.1 is)
  where
    by : (b c : Bool) → eqb q.id id ≡ b → eqb r.id id ≡ c → release_at id (qs ++ r ∷ []) ≡ cond c (Some r) (release_at id qs)
        → cond b (Some q) (release_at id (qs ++ r ∷ [])) ≡ cond c (Some r) (cond b (Some q) (release_at id qs))
    by true true e f rest =
        absurd (let one = eqb-true q.id id e in let two = eqb-true r.id id f in let most = rise_bound (q.id + 1) qs next rise.1 in omega (arith, one, two, is, most))
    by true false e f rest = refl
    by false c e f rest = rest

found_put : (id : ℕ) (r : Release) (rs : List Release) → IsTaken r.id rs → release_at id (put_release r rs) ≡ cond (eqb r.id id) (Some r) (release_at id rs)
found_put id r [] taken = absurd (cc)
found_put id r (q ∷ qs) taken = by (eqb q.id r.id) (eqb r.id id) (eqb q.id id) refl refl refl taken (found_put id r qs)
  where
    by : (b c d : Bool) → eqb q.id r.id ≡ b → eqb r.id id ≡ c → eqb q.id id ≡ d → (b || list_any (λ x. x.id == r.id) qs) ≡ true
        → (IsTaken r.id qs → release_at id (put_release r qs) ≡ cond c (Some r) (release_at id qs))
        → release_at id (cond b (r ∷ qs) (q ∷ put_release r qs)) ≡ cond c (Some r) (cond d (Some q) (release_at id qs))
    by true true d e f g taken rest = rw f refl
    by true false true e f g taken rest = absurd (let two : eqb r.id id ≡ true = ap (λ n. eqb n id) (sym (eqb-true q.id r.id e)) ∙ g in let bad : false ≡ true = sym f ∙ two in cc)
    by true false false e f g taken rest = rw f refl
    by false true true e f g taken rest =
        absurd (let two : eqb q.id r.id ≡ true = eq-eqb q.id r.id (eqb-true q.id id g ∙ sym (eqb-true r.id id f)) in let bad : false ≡ true = sym e ∙ two in cc)
    by false true false e f g taken rest = rw g (rest taken)
    by false false d e f g taken rest = rw g (ap (cond d (Some q)) (rest taken))

abbrev no_release : Option Release
no_release = None

none_either : (b : Bool) → no_release ≡ cond b None no_release
none_either true = refl
none_either false = refl

found_without : (id gone low : ℕ) (rs : List Release) (next : ℕ) → Rise low rs next → release_at id (without_release gone rs) ≡ cond (eqb gone id) None (release_at id rs)
found_without id gone low [] next rise = none_either (eqb gone id)
found_without id gone low (q ∷ qs) next rise = by (eqb q.id gone) (eqb gone id) (eqb q.id id) refl refl refl (found_without id gone (q.id + 1) qs next rise.1)
  where
    by : (b c d : Bool) → eqb q.id gone ≡ b → eqb gone id ≡ c → eqb q.id id ≡ d → release_at id (without_release gone qs) ≡ cond c None (release_at id qs)
        → release_at id (cond b qs (q ∷ without_release gone qs)) ≡ cond c None (cond d (Some q) (release_at id qs))
    by true true d e f g rest = let one = eqb-true q.id gone e in let two = eqb-true gone id f in above_none id (q.id + 1) qs next (omega (arith, one, two)) rise.1
    by true false true e f g rest = absurd (let two : eqb gone id ≡ true = ap (λ n. eqb n id) (sym (eqb-true q.id gone e)) ∙ g in let bad : false ≡ true = sym f ∙ two in cc)
    by true false false e f g rest = refl
    by false true true e f g rest =
        absurd (let two : eqb q.id gone ≡ true = eq-eqb q.id gone (eqb-true q.id id g ∙ sym (eqb-true gone id f)) in let bad : false ≡ true = sym e ∙ two in cc)
    by false true false e f g rest = rw g rest
    by false false d e f g rest = rw g (ap (cond d (Some q)) rest)

found_then : (s : State) (on : OnReleases) (id : ℕ) → ReleasesFit s on → Rise 0 s.releases s.counters.next_release
    → release_at id (releases_after on s.releases) ≡ release_then on id (release_at id s.releases)
found_then s on_releases.Nothing id fits rise = refl
found_then s (on_releases.File r) id fits rise = found_pushed id r 0 s.releases s.counters.next_release rise fits.numbered
found_then s (on_releases.Put r) id fits rise = found_put id r s.releases fits.taken
found_then s (on_releases.Remove gone) id fits rise = found_without id gone 0 s.releases s.counters.next_release rise

-- the release that an effect brings, or else the one that is held, is that of its id once the effect is there
pub then_is : (p : Prospect) (id : ℕ) (o : Option Release) → o ≡ release_then p.effect.now.on_releases id (release_at id p.content.now.state.releases)
    → EffectFits p.content.now.state p.effect.now → Holds p.content.now.state → o ≡ release_at id (prospect p).releases
then_is p id o is fits held = is ∙ sym (found_then p.content.now.state p.effect.now.on_releases id fits.releases held.judgeable.ids)

-- a release that is found is in bounds
pub release_bounded : (p : Prospect) (id : ℕ) (r : Release) → Some r ≡ release_at id (prospect p).releases → EffectFits p.content.now.state p.effect.now → Holds p.content.now.state → ReleaseInBounds r
release_bounded p id r is fits held =
    subst (λ (o : Option Release). IfSome o ReleaseInBounds) (sym is)
    (found_each ReleaseInBounds (λ q. eqb q.id id) (prospect p).releases (releases_kept p.content.now.state p.effect.now.on_releases fits.releases held.bounds.releases))

-- The alert of a release.

pub alert_bounded : (s : State) (id : ℕ) (o : Option Alert) → o ≡ alert_at id s.alerts → Holds s → IfSome o IsBounded
alert_bounded s id o is held =
    subst (λ (a : Option Alert). IfSome a IsBounded) (sym is)
    (found_each IsBounded (λ a. eqb a.release id) s.alerts
    (each_weaker (IsAlert s.counters.events) IsBounded (λ a has. let v = has.version in let most = held.bounds.counters.events in omega (arith, v, most)) s.alerts held.judgeable.alerts))

pub kept_bounded : (on : OnAlerts) (id : ℕ) (before o : Option Alert) → o ≡ kept_alert on id before → IfSome before IsBounded → IfSome o IsBounded
kept_bounded on id before o e is = subst (λ (p : Option Alert). IfSome p IsBounded) (sym e) (kept_has IsBounded (λ a within. within) on id before is)

-- what an effect leaves of an alert: the one that it acknowledges, or else what it doesn't take away

abbrev first_of : Option Alert → Option Alert → Option Alert
first_of None later = later
first_of (Some a) later = Some a

seen_first : (b : Bool) (a : Alert) → first_of (cond b (Some (record a { acknowledged = true })) None) (Some a) ≡ Some (cond b (record a { acknowledged = true }) a)
seen_first true a = refl
seen_first false a = refl

kept_first : (on : OnAlerts) (id : ℕ) (before : Option Alert) → first_of (acknowledged_by on before) (left_by on id before) ≡ kept_alert on id before
kept_first on_alerts.Nothing id before = refl
kept_first (on_alerts.Take gone) id before = refl
kept_first (on_alerts.Acknowledge seen) id None = refl
kept_first (on_alerts.Acknowledge seen) id (Some a) = seen_first (eqb a.release seen) a

pub kept_seen : (on : OnAlerts) (id : ℕ) (before : Option Alert) (a : Alert) → acknowledged_by on before ≡ Some a → Some a ≡ kept_alert on id before
kept_seen on id before a is = sym (ap (λ o. first_of o (left_by on id before)) is) ∙ kept_first on id before

pub kept_left : (on : OnAlerts) (id : ℕ) (before o : Option Alert) → acknowledged_by on before ≡ None → o ≡ left_by on id before → o ≡ kept_alert on id before
kept_left on id before o none is = is ∙ sym (ap (λ x. first_of x (left_by on id before)) none) ∙ kept_first on id before

-- the changes of the alert of the release that was found
pub found_changes : (p : Prospect) (r : Release) (before : Option Alert) (o : Option Release) → before ≡ alert_at r.id p.content.now.state.alerts → Some r ≡ o
    → changes_of p before r ≡ changes_found p o
found_changes p r before o one two =
    ap (λ (b : Option Alert). changes_of p b r) one
    ∙ ap (λ kept. change_between r.id (alert_at r.id p.content.now.state.alerts) kept ++ change_between r.id kept (judged_by p r kept))
    (sym (alerts_kept p.effect.now.on_alerts r.id p.content.now.state.alerts))
    ∙ ap (λ (x : Option Release). changes_found p x) two

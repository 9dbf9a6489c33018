-- Releases in force: an alert belongs to one, and only what settles an alert ends it.
use Rattle.std.proofs.Common.{◌≡◌, ◌≢◌, ◌⊎◌, inl, inr, ℕ, ◌+◌, ◌<◌, ◌≤◌, Bool, true, false, cond, eqb, List, [], ◌∷◌, ◌++◌, Option, None, Some, IfSome, refl, ap, sym, ◌∙◌, subst, eq-eqb, arith}
use Rattle.std.specs.List.{AllByRecursion, filter_map, cons_option}
use Rattle.std.proofs.lemmas.Bool.{ne_eqb, eqb-true}
use Rattle.plan.specs.Phases.{is_active}
use Rattle.plan.specs.declared.release.Phase.{Phase}
use Rattle.plan.specs.declared.release.Phase.TheVariants.{Flying, Stopped}
use Rattle.plan.specs.declared.release.Release.{Release}
use Rattle.plan.specs.declared.release.Revision.{Revision}
use Rattle.alerts.specs.declared.alert.Alert.{Alert}
use Rattle.asks.specs.declared.call.Ask.{Ask}
use Rattle.asks.specs.declared.call.Ask.TheVariants as ask
use Rattle.asks.specs.declared.reply.Done.{Done as DoneType}
use Rattle.release_index.specs.Below.{Grounds}
use Rattle.release_index.specs.declared.change.OnReleases.TheVariants as on_releases
use Rattle.desk_state.specs.declared.effect.Effect.{Effect}
use Rattle.desk_state.specs.declared.effect.OnAlerts.TheVariants as on_alerts
use Rattle.desk_state.specs.AlertHistory.{Settles, concurs as settles_by_concurring, cancels as settles_by_cancelling, arrives as settles_by_arriving}
use Rattle.desk_state.specs.Allowed.{IsEffectOf, admits, defers, clears, drafts, prepares, signs, concurs, amends, cancels, departs, stops, completes, acknowledges, purges, sweeps, OfHeld, IsPreparing, IsSigning, IsConcurring, IsAmending, IsCancelling, IsDeparting, IsStopping, IsCompleting, IsPurging, HasEndedAt}
use Rattle.desk_state.specs.Effects as effect
use Rattle.desk_state.specs.Events.{kept_alert, put_release, without_release, releases_after}
use Rattle.desk_state.specs.Sound.{Matches, IsAlerted, Rise, Sound}
use Rattle.desk_state.specs.State.{State, grounds_of, failing_if, failing_in, failing_of, release_at, alert_at}
use Rattle.desk_state.proofs.Found.{found_more}
use Rattle.desk_state.proofs.Judging.{IsOf, Of, found_of, none_before}
use Rattle.desk_state.proofs.ToldLaws.{found_id}

-- a release with an active revision, in a phase in which it is judged
pub record IsInForce (r : Release) : Type 0 where
  pub revision : Revision
  pub active : r.active ≡ Some revision
  pub judged : is_active r.phase ≡ true

-- the release with this id is in force
pub record HasInForce (id : ℕ) (rs : List Release) : Type 0 where
  pub release : Release
  pub found : release_at id rs ≡ Some release
  pub force : IsInForce release

-- ---- an alert belongs to a release in force

force_if : (b : Bool) (g : Grounds) (v : Revision) (phase : Phase) (a : Alert) → is_active phase ≡ b → Matches (Some a) (failing_if b g v phase) → is_active phase ≡ true
force_if true g v phase a e is = e
force_if false g v phase a e is = absurd is

force_in : (r : Release) (g : Grounds) (active : Option Revision) (a : Alert) → r.active ≡ active → Matches (Some a) (failing_in g active r.phase) → IsInForce r
force_in r g None a e is = absurd is
force_in r g (Some v) a e is = record { revision = v; active = e; judged = force_if (is_active r.phase) g v r.phase a refl is }

force_of : (r : Release) (g : Grounds) (o : Option Alert) → Matches o (failing_of g r) → IfSome o (λ a. IsInForce r)
force_of r g None is = tt
force_of r g (Some a) is = force_in r g r.active a refl is

-- an alert of another release in front
skips : (id other : ℕ) (o : Option Alert) (alerts : List Alert) → IfSome o (IsOf other) → other ≢ id → alert_at id (cons_option o alerts) ≡ alert_at id alerts
skips id other None alerts is ne = refl
skips id other (Some a) alerts is ne = rw (ne_eqb a.release id (λ e. ne (sym is ∙ e))) refl

-- the release of an alert that is found
here_force : (r : Release) (o : Option Alert) (id : ℕ) (rest : List Alert) (a : Alert) → IfSome o (λ b. IsInForce r) → alert_at id rest ≡ None → alert_at id (cons_option o rest) ≡ Some a → IsInForce r
here_force r None id rest a force none is = absurd (let e = sym none ∙ is in cc)
here_force r (Some b) id rest a force none is = force

source_by : (j : Release → Option Alert) (id : ℕ) (r : Release) (rs : List Release) (next : ℕ) (a : Alert) (b : Bool) → eqb r.id id ≡ b → Of j → Rise (r.id + 1) rs next → IfSome (j r) (λ b. IsInForce r)
    → (alert_at id (filter_map j rs) ≡ Some a → HasInForce id rs) → alert_at id (filter_map j (r ∷ rs)) ≡ Some a → HasInForce id (r ∷ rs)
source_by j id r rs next a true e of rise force later is =
    let same = eqb-true r.id id e in
    let none : alert_at id (filter_map j rs) ≡ None = none_before j id (r.id + 1) rs next of (omega (arith, same)) rise in
    record { release = r; found = rw e refl; force = here_force r (j r) id (filter_map j rs) a force none is }
source_by j id r rs next a false e of rise force later is =
    let ne : r.id ≢ id = λ same. (let yes = eq-eqb r.id id same in absurd (let f : false ≡ true = sym e ∙ yes in cc)) in
    let there = later (sym (skips id r.id (j r) (filter_map j rs) (of r) ne) ∙ is) in
    record { release = there.release; found = rw e there.found; force = there.force }

source : (j : Release → Option Alert) (id low : ℕ) (rs : List Release) (next : ℕ) (a : Alert) → Of j → Rise low rs next → AllByRecursion (λ r. IfSome (j r) (λ b. IsInForce r)) rs
    → alert_at id (filter_map j rs) ≡ Some a → HasInForce id rs
source j id low [] next a of rise all is = absurd (cc)
source j id low (r ∷ rs) next a of rise all is =
    source_by j id r rs next a (eqb r.id id) refl of rise.1 all.0 (λ later. source j id (r.id + 1) rs next a of rise.1 all.1 later) is

each_force : (g : Grounds) (alerts : List Alert) (rs : List Release) → AllByRecursion (IsAlerted g alerts) rs → AllByRecursion (λ r. IfSome (alert_at r.id alerts) (λ b. IsInForce r)) rs
each_force g alerts [] all = tt
each_force g alerts (r ∷ rs) all = (force_of r g (alert_at r.id alerts) all.0.0, each_force g alerts rs all.1)

-- the release of an alert is in force
pub alert_in_force : (s : State) (id : ℕ) (a : Alert) → Sound s → alert_at id s.alerts ≡ Some a → HasInForce id s.releases
alert_in_force s id a sound is =
    source (λ r. alert_at r.id s.alerts) id 0 s.releases s.counters.next_release a (λ r. found_of r.id s.alerts) sound.ids (each_force (grounds_of s) s.alerts s.releases sound.alerted)
    (ap (λ (held : List Alert). alert_at id held) (sym sound.own) ∙ is)

-- ---- what a change of the releases leaves

same_found : (q r : Release) (o : Option Release) → o ≡ Some q → o ≡ Some r → q ≡ r
same_found q r o one two = let e : Some q ≡ Some r = sym one ∙ two in cc

put_by : (id : ℕ) (r q : Release) (qs : List Release) (o : Release) (b c d : Bool) → eqb q.id r.id ≡ b → eqb q.id id ≡ c → eqb r.id id ≡ d
    → (release_at id qs ≡ Some o → release_at id (put_release r qs) ≡ Some (cond d r o)) → cond c (Some q) (release_at id qs) ≡ Some o
    → release_at id (cond b (r ∷ qs) (q ∷ put_release r qs)) ≡ Some (cond d r o)
put_by id r q qs o true true true e f g later is = rw g refl
put_by id r q qs o true true false e f g later is =
    absurd (let one = eqb-true q.id r.id e in let two = eqb-true q.id id f in let yes = eq-eqb r.id id (sym one ∙ two) in let bad : false ≡ true = sym g ∙ yes in cc)
put_by id r q qs o true false true e f g later is =
    absurd (let one = eqb-true q.id r.id e in let two = eqb-true r.id id g in let yes = eq-eqb q.id id (one ∙ two) in let bad : false ≡ true = sym f ∙ yes in cc)
put_by id r q qs o true false false e f g later is = rw g is
put_by id r q qs o false true true e f g later is =
    absurd (let one = eqb-true q.id id f in let two = eqb-true r.id id g in let yes = eq-eqb q.id r.id (one ∙ sym two) in let bad : false ≡ true = sym e ∙ yes in cc)
put_by id r q qs o false true false e f g later is = rw f is
put_by id r q qs o false false d e f g later is = rw f (later is)

-- the release of an id once another one takes the place of one with its id
pub put_found : (id : ℕ) (r : Release) (qs : List Release) (o : Release) → release_at id qs ≡ Some o → release_at id (put_release r qs) ≡ Some (cond (eqb r.id id) r o)
put_found id r [] o is = absurd (cc)
put_found id r (q ∷ qs) o is = put_by id r q qs o (eqb q.id r.id) (eqb q.id id) (eqb r.id id) refl refl refl (λ later. put_found id r qs o later) is

without_by : (id gone : ℕ) (q : Release) (qs : List Release) (o : Release) (b c : Bool) → gone ≢ id → eqb q.id gone ≡ b → eqb q.id id ≡ c
    → (release_at id qs ≡ Some o → release_at id (without_release gone qs) ≡ Some o) → cond c (Some q) (release_at id qs) ≡ Some o
    → release_at id (cond b qs (q ∷ without_release gone qs)) ≡ Some o
without_by id gone q qs o true true ne e f later is = absurd (let one = eqb-true q.id gone e in let two = eqb-true q.id id f in ne (sym one ∙ two))
without_by id gone q qs o true false ne e f later is = is
without_by id gone q qs o false true ne e f later is = rw f is
without_by id gone q qs o false false ne e f later is = rw f (later is)

without_found : (id gone : ℕ) (qs : List Release) (o : Release) → gone ≢ id → release_at id qs ≡ Some o → release_at id (without_release gone qs) ≡ Some o
without_found id gone [] o ne is = absurd (cc)
without_found id gone (q ∷ qs) o ne is = without_by id gone q qs o (eqb q.id gone) (eqb q.id id) ne refl refl (λ later. without_found id gone qs o ne later) is

-- ---- what each ask leaves in force

no_force : (phase : Phase) (at : ℕ) → HasEndedAt phase at → is_active phase ≡ true → ⊥
no_force phase at (inl e) is = absurd (let f : false ≡ true = sym (ap is_active e) ∙ is in cc)
no_force phase at (inr e) is = absurd (let f : false ≡ true = sym (ap is_active e) ∙ is in cc)

same_force : (q r : Release) → r.phase ≡ q.phase → r.active ≡ q.active → IsInForce q → IsInForce r
same_force q r phase active is = record { revision = is.revision; active = active ∙ is.active; judged = ap is_active phase ∙ is.judged }

moved_force : (q r : Release) (phase : Phase) → r.phase ≡ phase → is_active phase ≡ true → r.active ≡ q.active → IsInForce q → IsInForce r
moved_force q r phase e judged active is = record { revision = is.revision; active = active ∙ is.active; judged = ap is_active e ∙ judged }

-- a release that takes the place of one in force, and is so itself
put_force : (R : Release → Release → Type 0) (id at : ℕ) (rs : List Release) (r : Release) (o : Option Release) → ((q : Release) → R q r → r.id ≡ q.id) → ((q : Release) → R q r → IsInForce q → IsInForce r)
    → release_at at rs ≡ o → OfHeld R o r → HasInForce id rs → HasInForce id (put_release r rs)
put_force R id at rs r None same force e is has = absurd is
put_force R id at rs r (Some q) same force e is has = by (eqb r.id id) refl
  where
    by : (b : Bool) → eqb r.id id ≡ b → HasInForce id (put_release r rs)
    by true f =
        let here : at ≡ id = sym (found_id at rs q e) ∙ sym (same q is) ∙ eqb-true r.id id f in
        let one : release_at id rs ≡ Some q = ap (λ n. release_at n rs) (sym here) ∙ e in
        let old : has.release ≡ q = same_found has.release q (release_at id rs) has.found one in
        record { release = r; found = put_found id r rs has.release has.found ∙ ap (λ b. Some (cond b r has.release)) f; force = force q is (subst IsInForce old has.force) }
    by false f = record { release = has.release; found = put_found id r rs has.release has.found ∙ ap (λ b. Some (cond b r has.release)) f; force = has.force }

-- one whose alert goes with it, or another one
put_afresh_force : (R : Release → Release → Type 0) (id at : ℕ) (rs : List Release) (r : Release) (o : Option Release) → ((q : Release) → R q r → r.id ≡ q.id)
    → release_at at rs ≡ o → OfHeld R o r → HasInForce id rs → (at ≡ id) ⊎ (HasInForce id (put_release r rs) × (id ≢ r.id))
put_afresh_force R id at rs r None same e is has = absurd is
put_afresh_force R id at rs r (Some q) same e is has = by (eqb r.id id) refl
  where
    by : (b : Bool) → eqb r.id id ≡ b → (at ≡ id) ⊎ (HasInForce id (put_release r rs) × (id ≢ r.id))
    by true f = inl (sym (found_id at rs q e) ∙ sym (same q is) ∙ eqb-true r.id id f)
    by false f =
        let ne : id ≢ r.id = λ same. (let yes = eq-eqb r.id id (sym same) in absurd (let g : false ≡ true = sym f ∙ yes in cc)) in
        inr (record { release = has.release; found = put_found id r rs has.release has.found ∙ ap (λ b. Some (cond b r has.release)) f; force = has.force }, ne)

-- ---- what an ask leaves of an alert

-- the alert that an effect leaves was opened at the same moment, and has the same version
pub record IsLeft (does : Effect) (id : ℕ) (a : Alert) : Type 0 where
  pub left : Alert
  pub kept : kept_alert does.on_alerts id (Some a) ≡ Some left
  pub opened : left.opened ≡ a.opened
  pub version : left.version ≡ a.version

-- an effect leaves the release in force, and its alert
pub record LeavesForce (does : Effect) (s : State) (id : ℕ) : Type 0 where
  pub force : HasInForce id (releases_after does.on_releases s.releases)
  pub left : (a : Alert) → IsLeft does id a

seen_left : (seen id : ℕ) (a : Alert) → IsLeft (effect.acknowledge seen) id a
seen_left seen id a = by (eqb a.release seen) refl
  where
    by : (b : Bool) → eqb a.release seen ≡ b → IsLeft (effect.acknowledge seen) id a
    by true e = record { left = record a { acknowledged = true }; kept = rw e refl; opened = refl; version = refl }
    by false e = record { left = a; kept = rw e refl; opened = refl; version = refl }

abbrev Leaves : State → ℕ → Ask → Effect → Type 0
Leaves s id a does = LeavesForce does s id ⊎ Settles s id a

-- a release in its place, with the alert left as it is
puts : (s : State) (id : ℕ) (a : Ask) (r : Release) → HasInForce id (put_release r s.releases) → Leaves s id a (effect.put r)
puts s id a r force = inl (record { force = force; left = λ b. record { left = b; kept = refl; opened = refl; version = refl } })

-- a release in its place, whose alert goes
puts_afresh : (s : State) (id at : ℕ) (a : Ask) (r : Release) → (at ≡ id) ⊎ (HasInForce id (put_release r s.releases) × (id ≢ r.id)) → (at ≡ id → Settles s id a) → Leaves s id a (effect.put_afresh r)
puts_afresh s id at a r (inl same) settles = inr (settles same)
puts_afresh s id at a r (inr other) settles =
    inl (record { force = other.0; left = λ b. record { left = b; kept = rw (ne_eqb id r.id other.1) refl; opened = refl; version = refl } })

arrived : (s : State) (actor : List ℕ) (id leg : ℕ) (r : Release) (o : Option Release) → release_at id s.releases ≡ o → OfHeld (IsCompleting s actor leg) o r → Settles s id (ask.Arrive id leg)
arrived s actor id leg r None e is = absurd is
arrived s actor id leg r (Some q) e is = settles_by_arriving e is.last

purged : (s : State) (id : ℕ) (q : Release) → release_at id s.releases ≡ Some q → IsPurging s q → HasInForce id s.releases → ⊥
purged s id q found is has = let same = same_found has.release q (release_at id s.releases) has.found found in
    no_force q.phase is.at is.ended (subst (λ (r : Release). is_active r.phase ≡ true) same has.force.judged)

removes : (s : State) (actor : List ℕ) (id at : ℕ) (q : Release) → release_at at s.releases ≡ Some q → IsPurging s q → HasInForce id s.releases → Leaves s id (ask.Purge at) (effect.remove q.id)
removes s actor id at q found is has =
    let here : q.id ≡ at = found_id at s.releases q found in
    let ne : q.id ≢ id = λ same. purged s id q (ap (λ n. release_at n s.releases) (sym (sym here ∙ same)) ∙ found) is has in
    inl (record {
      force = record { release = has.release; found = without_found id q.id s.releases has.release ne has.found; force = has.force };
      left = λ b. record { left = b; kept = refl; opened = refl; version = refl };
    })

keeps_force : (s : State) (id : ℕ) (a : Ask) (does : Effect) → does.on_releases ≡ on_releases.Nothing → does.on_alerts ≡ on_alerts.Nothing → HasInForce id s.releases → Leaves s id a does
keeps_force s id a does one two has =
    inl (record {
      force = subst (λ on. HasInForce id (releases_after on s.releases)) (sym one) has;
      left = λ b. record { left = b; kept = ap (λ on. kept_alert on id (Some b)) two; opened = refl; version = refl };
    })

-- what an ask leaves of a release in force and of its alert, unless it settles that alert
pub ask_leaves : (s : State) (actor : List ℕ) (id : ℕ) {a : Ask} {does : Effect} {made : DoneType} → IsEffectOf s actor a does made → HasInForce id s.releases → Leaves s id a does
ask_leaves s actor id {a = a} {does = does} (admits is) has = keeps_force s id a does refl refl has
ask_leaves s actor id {a = a} {does = does} (defers is) has = keeps_force s id a does refl refl has
ask_leaves s actor id {a = a} {does = does} (clears is) has = keeps_force s id a does refl refl has
ask_leaves s actor id (drafts {r = r} is) has = inl (record {
  force = record { release = has.release; found = found_more (λ q. eqb q.id id) s.releases (r ∷ []) has.release has.found; force = has.force };
  left = λ b. record { left = b; kept = refl; opened = refl; version = refl };
})
ask_leaves s actor id {a = a} (prepares {id = at} {r = r} is pending) has =
    puts s id a r (put_force (IsPreparing s actor) id at s.releases r (release_at at s.releases) (λ q of. of.same.id) (λ q of force. same_force q r of.phase of.active force) refl is has)
ask_leaves s actor id {a = a} (signs {id = at} {number = number} {digest = digest} {r = r} is) has =
    puts s id a r (put_force (IsSigning s actor number digest) id at s.releases r (release_at at s.releases) (λ q of. of.same.id) (λ q of force. same_force q r of.phase of.active force) refl is has)
ask_leaves s actor id {a = a} (concurs {id = at} {number = number} {digest = digest} {r = r} is) has =
    puts_afresh s id at a r (put_afresh_force (IsConcurring s actor number digest) id at s.releases r (release_at at s.releases) (λ q of. of.same.id) refl is has)
    (λ same. subst (λ n. Settles s n a) same settles_by_concurring)
ask_leaves s actor id {a = a} (amends {id = at} {number = number} {plan = plan} {r = r} is) has =
    puts s id a r (put_force (IsAmending s actor plan number) id at s.releases r (release_at at s.releases) (λ q of. of.same.id) (λ q of force. same_force q r of.phase of.active force) refl is has)
ask_leaves s actor id {a = a} (cancels {id = at} {r = r} is) has =
    puts_afresh s id at a r (put_afresh_force (IsCancelling s actor) id at s.releases r (release_at at s.releases) (λ q of. of.same.id) refl is has)
    (λ same. subst (λ n. Settles s n a) same settles_by_cancelling)
ask_leaves s actor id {a = a} (departs {id = at} {leg = leg} {r = r} is) has =
    puts s id a r (put_force (IsDeparting s actor leg) id at s.releases r (release_at at s.releases) (λ q of. of.same.id) (λ q of force. moved_force q r (Flying leg) of.phase refl of.active force) refl is has)
ask_leaves s actor id {a = a} (stops {id = at} {leg = leg} {r = r} is) has =
    puts s id a r (put_force (IsStopping s actor leg) id at s.releases r (release_at at s.releases) (λ q of. of.arrives.same.id)
    (λ q of force. moved_force q r (Stopped (leg + 1) s.moment false) of.phase refl of.arrives.active force) refl is has)
ask_leaves s actor id {a = a} (completes {id = at} {leg = leg} {r = r} is) has =
    puts_afresh s id at a r (put_afresh_force (IsCompleting s actor leg) id at s.releases r (release_at at s.releases) (λ q of. of.arrives.same.id) refl is has)
    (λ same. subst (λ n. Settles s n a) same (arrived s actor at leg r (release_at at s.releases) refl is))
ask_leaves s actor id (acknowledges {q = q} found is) has = inl (record { force = has; left = seen_left q.id id })
ask_leaves s actor id {a = a} {does = does} (sweeps is) has = keeps_force s id a does refl refl has
ask_leaves s actor id (purges {id = at} {q = q} found is) has = removes s actor id at q found is has

-- What is told of a step are the differences of the alerts before and after it.
use Rattle.std.proofs.Common.{◌≡◌, ℕ, Bool, true, false, ◌&&◌, cond, eqb, ltb, List, [], ◌∷◌, ◌++◌, option_to_list, Option, None, Some, Result, Ok, Err, ◌+◌, refl, ap, sym, ◌∙◌, subst, arith}
use Rattle.std.proofs.lemmas.Bool.{eqb-true, and_parts}
use Rattle.std.proofs.lemmas.Bool.Decides.{nat_tests}
use Rattle.std.proofs.lemmas.List.Elements.{filter_map-append}
use Rattle.std.specs.Option.{option_map}
use Rattle.std.specs.List.{cons_option}
use Rattle.plan.specs.declared.release.Release.{Release}
use Rattle.plan.specs.declared.release.Revision.{Revision}
use Rattle.alerts.specs.declared.alert.Alert.{Alert}
use Rattle.alerts.specs.declared.notices.Notice.{Notice}
use Rattle.alerts.specs.Notices.{notice_of}
use Rattle.asks.specs.declared.call.Ask.{Ask}
use Rattle.asks.specs.declared.call.Call.{Call}
use Rattle.asks.specs.declared.reply.Refusal.{Refusal}
use Rattle.asks.specs.declared.reply.Done.{Done as DoneType}
use Rattle.asks.specs.declared.reply.Reply.TheVariants.{Done}
use Rattle.asks.specs.Forms.{CallHasForms}
use Rattle.ops_tables.specs.Tables.{actor_of}
use Rattle.desk_state.specs.declared.change.AlertChange.{AlertChange}
use Rattle.desk_state.specs.declared.entry.Entry.{Entry}
use Rattle.desk_state.specs.declared.entry.What.TheVariants as what
use Rattle.desk_state.specs.declared.effect.Effect.{Effect}
use Rattle.desk_state.specs.declared.effect.OnAlerts.{OnAlerts}
use Rattle.desk_state.specs.declared.effect.OnAlerts.TheVariants as on_alerts
use Rattle.desk_state.specs.Effects.{tick}
use Rattle.desk_state.specs.declared.effect.Decision.{Decision}
use Rattle.desk_state.specs.declared.effect.Decision.TheVariants.{Show, Do}
use Rattle.desk_state.specs.State.{State, release_at, alert_at, judged, judged_all, is_full, is_full_for}
use Rattle.desk_state.specs.Events.{effected, acknowledged_if, kept_alert, is_same_mark, is_same_alert, change_between, changes_from, changes_over, alert_changes, notices_of}
use Rattle.desk_state.specs.Decide.{decide, leg_count}
use Rattle.desk_state.specs.Step.{entry, entered, without_key, enter, finish, do_call, do_unless, answer_call, tick_unless, tick_to}
use Rattle.desk_state.specs.People.{mistaken}
use Rattle.desk_state.specs.Sound.{Sound, InBounds, IsLater, EffectFits, DecisionFits}
use Rattle.desk_state.specs.Allowed.{IsEffectOf, admits, defers, clears, drafts, prepares, signs, concurs, amends, cancels, departs, stops, completes, acknowledges, purges, sweeps, OfHeld, IsConcurring, IsCancelling, HasMore, HasNoMore, IsStopping, IsCompleting, DecisionOf}
use Rattle.desk_state.specs.Told.{told_of, is_last, takes_alert, told_over, AreDifferences, takes_none}
use Rattle.desk_state.proofs.Judging.{Agrees, agrees_all, alerts_kept, judged_is}
use Rattle.desk_state.proofs.Parts.{releases_rise}
use Rattle.desk_state.proofs.Deciding.{decision_fits}
use Rattle.desk_state.proofs.AllowedLaws.{decision_is}

only_one : (o : Option Notice) → cons_option o [] ≡ option_to_list o
only_one None = refl
only_one (Some n) = refl

-- alerts of the same version tell nothing
same_version : (a b : Alert) → eqb a.version b.version ≡ true → notice_of (Some a) (Some b) ≡ None
same_version a b e = let low : ltb a.version b.version ≡ false = let same = eqb-true a.version b.version e in grind (arith, nat_tests, same) in rw low refl

told_by : (id : ℕ) (a b : Alert) (same : Bool) → is_same_alert a b ≡ same
    → notices_of (cond same [] (record { release = id; before = Some a; after = Some b } ∷ [])) ≡ option_to_list (notice_of (Some a) (Some b))
told_by id a b true e = ap option_to_list (sym (same_version a b (and_parts (eqb a.version b.version) (is_same_mark a.acknowledged b.acknowledged) e).0))
told_by id a b false e = only_one (notice_of (Some a) (Some b))

told_between : (id : ℕ) (before after : Option Alert) → notices_of (change_between id before after) ≡ option_to_list (notice_of before after)
told_between id None None = refl
told_between id None (Some b) = refl
told_between id (Some a) None = refl
told_between id (Some a) (Some b) = told_by id a b _ refl

told_from : (t : State) (before : Option Alert) (r : Release)
    → notices_of (changes_from t before r) ≡ option_to_list (notice_of before (alert_at r.id t.alerts)) ++ option_to_list (notice_of (alert_at r.id t.alerts) (judged t r))
told_from t before r =
    filter_map-append (λ (c : AlertChange). notice_of c.before c.after) (change_between r.id before (alert_at r.id t.alerts)) (change_between r.id (alert_at r.id t.alerts) (judged t r))
    ∙ ap (λ (ns : List Notice). ns ++ notices_of (change_between r.id (alert_at r.id t.alerts) (judged t r))) (told_between r.id before (alert_at r.id t.alerts))
    ∙ ap (λ (ns : List Notice). option_to_list (notice_of before (alert_at r.id t.alerts)) ++ ns) (told_between r.id (alert_at r.id t.alerts) (judged t r))

-- whether an effect takes the alert of a release away
abbrev takes_of : OnAlerts → ℕ → Bool
takes_of on_alerts.Nothing id = false
takes_of (on_alerts.Take gone) id = eqb id gone
takes_of (on_alerts.Acknowledge seen) id = false

same_tells_nothing : (o : Option Alert) → notice_of o o ≡ None
same_tells_nothing None = refl
same_tells_nothing (Some a) = same_version a a (grind (arith, nat_tests))

abbrev told_through : Option Alert → Option Alert → Option Alert → List Notice
told_through before kept after = option_to_list (notice_of before kept) ++ option_to_list (notice_of kept after)

told_once : (takes : Bool) (before after : Option Alert) → told_through before (cond takes None before) after ≡ told_of takes before after
told_once true before after = refl
told_once false before after = ap (λ o. option_to_list o ++ option_to_list (notice_of before after)) (same_tells_nothing before)

seen_by : (b : Bool) (a : Alert) (after : Option Alert) → told_through (Some a) (Some (cond b (record a { acknowledged = true }) a)) after ≡ option_to_list (notice_of (Some a) after)
seen_by true a None = ap (λ o. option_to_list o ++ option_to_list (notice_of (Some a) None)) (same_tells_nothing (Some a))
seen_by true a (Some c) = ap (λ o. option_to_list o ++ option_to_list (notice_of (Some a) (Some c))) (same_tells_nothing (Some a))
seen_by false a after = ap (λ o. option_to_list o ++ option_to_list (notice_of (Some a) after)) (same_tells_nothing (Some a))

-- that an alert is acknowledged tells nothing
told_seen : (seen : ℕ) (before after : Option Alert) → told_through before (option_map (acknowledged_if seen) before) after ≡ option_to_list (notice_of before after)
told_seen seen None after = refl
told_seen seen (Some a) after = seen_by (eqb a.release seen) a after

told_kept : (on : OnAlerts) (id : ℕ) (before after : Option Alert) → told_through before (kept_alert on id before) after ≡ told_of (takes_of on id) before after
told_kept on_alerts.Nothing id before after = told_once false before after
told_kept (on_alerts.Take gone) id before after = told_once (eqb id gone) before after
told_kept (on_alerts.Acknowledge seen) id before after = told_seen seen before after

told_each : (effect : Effect) (s : State) (after : List Alert) (r : Release) → alert_at r.id after ≡ judged (effected effect s) r
    → notices_of (changes_from (effected effect s) (alert_at r.id s.alerts) r) ≡ told_of (takes_of effect.on_alerts r.id) (alert_at r.id s.alerts) (alert_at r.id after)
told_each effect s after r is =
    told_from (effected effect s) (alert_at r.id s.alerts) r
    ∙ ap (λ (o : Option Alert). told_through (alert_at r.id s.alerts) o (judged (effected effect s) r)) (alerts_kept effect.on_alerts r.id s.alerts)
    ∙ told_kept effect.on_alerts r.id (alert_at r.id s.alerts) (judged (effected effect s) r)
    ∙ ap (λ (o : Option Alert). told_of (takes_of effect.on_alerts r.id) (alert_at r.id s.alerts) o) (sym is)

told_all : (effect : Effect) (s : State) (after : List Alert) (rs : List Release) → Agrees (judged (effected effect s)) after rs
    → notices_of (changes_over (effected effect s) s.alerts rs) ≡ told_over (takes_of effect.on_alerts) s.alerts after rs
told_all effect s after [] agrees = refl
told_all effect s after (r ∷ rs) agrees =
    filter_map-append (λ (c : AlertChange). notice_of c.before c.after) (changes_from (effected effect s) (alert_at r.id s.alerts) r) (changes_over (effected effect s) s.alerts rs)
    ∙ ap (λ (ns : List Notice). ns ++ notices_of (changes_over (effected effect s) s.alerts rs)) (told_each effect s after r agrees.0)
    ∙ ap (λ (ns : List Notice). told_of (takes_of effect.on_alerts r.id) (alert_at r.id s.alerts) (alert_at r.id after) ++ ns) (told_all effect s after rs agrees.1)

told_same : (f g : ℕ → Bool) (before after : List Alert) (rs : List Release) → ((id : ℕ) → f id ≡ g id) → told_over f before after rs ≡ told_over g before after rs
told_same f g before after [] same = refl
told_same f g before after (r ∷ rs) same =
    ap (λ b. told_of b (alert_at r.id before) (alert_at r.id after) ++ told_over f before after rs) (same r.id)
    ∙ ap (λ (ns : List Notice). told_of (g r.id) (alert_at r.id before) (alert_at r.id after) ++ ns) (told_same f g before after rs same)

-- what is told of an effect
effect_told : (effect : Effect) (s : State) (takes : ℕ → Bool) → EffectFits s effect → Sound s → ((id : ℕ) → takes_of effect.on_alerts id ≡ takes id)
    → notices_of (alert_changes effect s) ≡ told_over takes s.alerts (judged_all (effected effect s)) (effected effect s).releases
effect_told effect s takes fits sound same =
    let t : State = effected effect s in
    told_all effect s (judged_all t) t.releases (agrees_all (judged t) 0 t.releases t.counters.next_release (judged_is t) (releases_rise s effect.on_releases fits.releases sound.ids))
    ∙ told_same (takes_of effect.on_alerts) takes s.alerts (judged_all t) t.releases same

-- which alert an ask takes away
found_by : (id : ℕ) (q r : Release) (b : Bool) (later : Option Release) → eqb q.id id ≡ b → cond b (Some q) later ≡ Some r → (later ≡ Some r → r.id ≡ id) → r.id ≡ id
found_by id q r true later e is more = let same : q ≡ r = cc in subst (λ (x : Release). x.id ≡ id) same (eqb-true q.id id e)
found_by id q r false later e is more = more is

pub found_id : (id : ℕ) (rs : List Release) (r : Release) → release_at id rs ≡ Some r → r.id ≡ id
found_id id [] r e = absurd (cc)
found_id id (q ∷ rs) r e = found_by id q r _ (release_at id rs) refl e (found_id id rs r)

held_id : (R : Release → Release → Type 0) (id : ℕ) (rs : List Release) (o : Option Release) (r : Release) → ((q : Release) → R q r → r.id ≡ q.id) → release_at id rs ≡ o → OfHeld R o r → r.id ≡ id
held_id R id rs None r keeps is held = absurd held
held_id R id rs (Some q) r keeps is held = keeps q held ∙ found_id id rs q is

-- the id of a release that is found
of_found : (R : Release → Release → Type 0) (s : State) (id : ℕ) (r : Release) → ((q : Release) → R q r → r.id ≡ q.id) → OfHeld R (release_at id s.releases) r → r.id ≡ id
of_found R s id r keeps held = held_id R id s.releases (release_at id s.releases) r keeps refl held

same_or : (id a b : ℕ) (last : Bool) → a ≡ b → last ≡ true → eqb id a ≡ (eqb id b && last)
same_or id a b last same is = ap (λ n. eqb id n) same ∙ sym (rw is (and_true (eqb id b)))
  where
    and_true : (x : Bool) → (x && true) ≡ x
    and_true true = refl
    and_true false = refl

and_false : (x last : Bool) → last ≡ false → false ≡ (x && last)
and_false true last e = sym e
and_false false last e = refl

-- it is the last leg, or it isn't

none_more : (active : Option Revision) (leg : ℕ) → HasNoMore active leg → ltb leg (leg_count active) ≡ false
none_more None leg is = grind (arith, nat_tests)
none_more (Some v) leg is = grind (arith, nat_tests, is)

one_more : (active : Option Revision) (leg : ℕ) → HasMore active leg → ltb leg (leg_count active) ≡ true
one_more None leg is = absurd is
one_more (Some v) leg is = grind (arith, nat_tests, is)

is_over : (s : State) (actor : List ℕ) (leg : ℕ) (o : Option Release) (r : Release) → OfHeld (IsCompleting s actor leg) o r → is_last o leg ≡ true
is_over s actor leg None r held = absurd held
is_over s actor leg (Some q) r held = rw (none_more q.active leg held.last) refl

goes_on : (s : State) (actor : List ℕ) (leg : ℕ) (o : Option Release) (r : Release) → OfHeld (IsStopping s actor leg) o r → is_last o leg ≡ false
goes_on s actor leg None r held = absurd held
goes_on s actor leg (Some q) r held = rw (one_more q.active leg held.more) refl

asked_takes : (s : State) (actor : List ℕ) {a : Ask} {effect : Effect} {made : DoneType} → IsEffectOf s actor a effect made → (id : ℕ) → takes_of effect.on_alerts id ≡ takes_alert s a id
asked_takes s actor (admits is) id = refl
asked_takes s actor (defers is) id = refl
asked_takes s actor (clears is) id = refl
asked_takes s actor (drafts is) id = refl
asked_takes s actor (prepares is pending) id = refl
asked_takes s actor (signs is) id = refl
asked_takes s actor (concurs {id = release} {number = number} {digest = digest} {r = r} is) id =
    ap (λ n. eqb id n) (of_found (IsConcurring s actor number digest) s release r (λ q has. has.same.id) is)
asked_takes s actor (amends is) id = refl
asked_takes s actor (cancels {id = release} {r = r} is) id = ap (λ n. eqb id n) (of_found (IsCancelling s actor) s release r (λ q has. has.same.id) is)
asked_takes s actor (departs is) id = refl
asked_takes s actor (stops {id = release} {leg = leg} {r = r} is) id = and_false (eqb id release) (is_last (release_at release s.releases) leg) (goes_on s actor leg (release_at release s.releases) r is)
asked_takes s actor (completes {id = release} {leg = leg} {r = r} is) id =
    same_or id r.id release (is_last (release_at release s.releases) leg) (of_found (IsCompleting s actor leg) s release r (λ q has. has.arrives.same.id) is)
    (is_over s actor leg (release_at release s.releases) r is)
asked_takes s actor (acknowledges is has) id = refl
asked_takes s actor (sweeps is) id = refl
asked_takes s actor (purges is has) id = refl

-- Calls and ticks.

-- nothing is told where nothing changes
nothing_told : (takes : ℕ → Bool) (s : State) → AreDifferences takes s s []
nothing_told takes s = record { unchanged = λ e. refl; changed = λ ne. absurd (ne refl) }

one_more_event : (n : ℕ) → n + 1 ≡ n → ⊥
one_more_event n e = absurd (omega (arith, e))

-- an event changes the state
differ : (effect : Effect) (e : Entry) (s : State) → entered e (effected effect s) ≡ s → ⊥
differ effect e s same = one_more_event s.counters.events (ap (λ (u : State). u.counters.events) same)

told_event : (takes : ℕ → Bool) (effect : Effect) (e : Entry) (s : State) (notices : List Notice)
    → notices ≡ told_over takes s.alerts (judged_all (effected effect s)) (effected effect s).releases → AreDifferences takes s (entered e (effected effect s)) notices
told_event takes effect e s notices told = record { unchanged = λ same. absurd (differ effect e s same); changed = λ ne. told }

enter_told : (full : Bool) (s : State) (lane : ℕ) (call : Call) (effect : Effect) (made : DoneType) → EffectFits s effect → Sound s → IsEffectOf s call.actor call.ask effect made
    → AreDifferences (takes_alert s call.ask) s (enter full s lane call made effect).state (enter full s lane call made effect).notices
enter_told true s lane call effect made fits sound is = nothing_told (takes_alert s call.ask) s
enter_told false s lane call effect made fits sound is =
    told_event (takes_alert s call.ask) effect (entry lane (what.Asked (without_key call) (Done made))) s (notices_of (alert_changes effect s))
    (effect_told effect s (takes_alert s call.ask) fits sound (asked_takes s call.actor is))

finish_told : (s : State) (lane : ℕ) (call : Call) (decision : Result Decision Refusal) → DecisionFits s decision → Sound s → DecisionOf s call decision
    → AreDifferences (takes_alert s call.ask) s (finish s lane call decision).state (finish s lane call decision).notices
finish_told s lane call (Err refusal) fits sound is = nothing_told (takes_alert s call.ask) s
finish_told s lane call (Ok (Show reply)) fits sound is = nothing_told (takes_alert s call.ask) s
finish_told s lane call (Ok (Do made effect)) fits sound is = enter_told (is_full_for s call.ask) s lane call effect made fits sound is.1

do_told : (s : State) (lane : ℕ) (call : Call) (o : Option Refusal) → Sound s → InBounds s → CallHasForms call
    → AreDifferences (takes_alert s call.ask) s (do_unless o s lane call).state (do_unless o s lane call).notices
unfolding do_call
do_told s lane call (Some refusal) sound kept form = nothing_told (takes_alert s call.ask) s
do_told s lane call None sound kept form = finish_told s lane call (decide s call) (decision_fits s call sound kept form) sound (decision_is s call sound)

-- what is told of a call
pub call_told : (s t : State) (lane : ℕ) (call : Call) (notices : List Notice) → Sound s → InBounds s → CallHasForms call → t ≡ (answer_call s lane call).state → notices ≡ (answer_call s lane call).notices
    → AreDifferences (takes_alert s call.ask) s t notices
unfolding answer_call
call_told s t lane call notices sound kept form one two =
    subst (λ (u : State). AreDifferences (takes_alert s call.ask) s u notices) (sym one)
    (subst (λ (ns : List Notice). AreDifferences (takes_alert s call.ask) s (answer_call s lane call).state ns) (sym two)
    (do_told s lane call (mistaken (actor_of s.tables call.actor) call.key) sound kept form))

tick_told_by : (full : Bool) (s : State) (lane to : ℕ) → IsLater s.moment to → Sound s → AreDifferences takes_none s (tick_unless full s lane to).state (tick_unless full s lane to).notices
tick_told_by true s lane to shown sound = nothing_told takes_none s
tick_told_by false s lane to shown sound =
    told_event takes_none (tick to) (entry lane (what.Tick to)) s (notices_of (alert_changes (tick to) s)) (effect_told (tick to) s takes_none (record { moment = shown; report = tt; apart = tt; deferrals = tt; releases = tt }) sound (λ id. refl))

-- what is told of a tick
pub tick_told : (s t : State) (lane to : ℕ) (notices : List Notice) → Sound s → IsLater s.moment to → t ≡ (tick_to s lane to).state → notices ≡ (tick_to s lane to).notices → AreDifferences takes_none s t notices
unfolding tick_to
tick_told s t lane to notices sound shown one two =
    subst (λ (u : State). AreDifferences takes_none s u notices) (sym one)
    (subst (λ (ns : List Notice). AreDifferences takes_none s (tick_to s lane to).state ns) (sym two) (tick_told_by (is_full s) s lane to shown sound))

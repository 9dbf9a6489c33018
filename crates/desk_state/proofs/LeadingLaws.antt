-- A call and a tick lead to no other state than they may.
use Rattle.std.proofs.Common.{◌≡◌, ℕ, append-nil, ◌∙◌, IfSome, Bool, true, false, List, Option, None, Some, Result, Ok, Err, inl, inr, refl, subst, sym, cond, eqb, eq-eqb, ◌≢◌, [], ◌∷◌}
use Rattle.std.specs.Option.{option_map}
use Rattle.std.proofs.lemmas.Bool.{ne_eqb}
use Rattle.std.specs.Str.{bytes_eq}
use Rattle.std.specs.List.{AllByRecursion}
use Rattle.ops_tables.specs.Rows.{Actor}
use Rattle.ops_tables.specs.Tables.{actor_of}
use Rattle.alerts.specs.declared.alert.Alert.{Alert}
use Rattle.desk_state.specs.Sound.{Sound, InBounds, IsLater, EffectFits, DecisionFits}
use Rattle.alerts.proofs.Laws.{follows}
use Rattle.desk_state.specs.declared.effect.OnAlerts.{OnAlerts}
use Rattle.desk_state.specs.declared.effect.OnAlerts.TheVariants as on_alerts
use Rattle.desk_state.proofs.Deciding.{decision_fits}
use Rattle.desk_state.proofs.Judging.{IsOf, Agrees, agrees_all, alerts_kept, found_of, judged_is}
use Rattle.desk_state.proofs.Parts.{releases_rise, tick_fits}
use Rattle.plan.specs.declared.findings.Finding.{Finding}
use Rattle.plan.specs.declared.release.Release.{Release}
use Rattle.asks.specs.declared.call.Ask.{Ask}
use Rattle.asks.specs.declared.call.Call.{Call}
use Rattle.asks.specs.declared.reply.Refusal.{Refusal}
use Rattle.asks.specs.declared.reply.Done.{Done as DoneType}
use Rattle.asks.specs.declared.reply.Reply.{Reply}
use Rattle.asks.specs.declared.reply.Reply.TheVariants.{Done, Seen, Refused}
use Rattle.asks.specs.Forms.{CallHasForms}
use Rattle.desk_state.specs.declared.entry.What.TheVariants as what
use Rattle.desk_state.specs.declared.entry.Entry.{Entry}
use Rattle.desk_state.specs.declared.effect.Effect.{Effect}
use Rattle.desk_state.specs.Effects.{tick}
use Rattle.desk_state.specs.Events.{effected, acknowledged_if, kept_alert}
use Rattle.desk_state.specs.declared.effect.Decision.{Decision}
use Rattle.desk_state.specs.declared.effect.Decision.TheVariants.{Show, Do}
use Rattle.desk_state.specs.State.{State, grounds_of, failing_of, alert_at, alert_for, judged, judged_all, is_full, is_full_for}
use Rattle.desk_state.specs.Step.{entry, entered, without_key, accepted, enter, finish, do_call, do_unless, answer_call, tick_unless, tick_to}
use Rattle.desk_state.specs.Chain.{unless}
use Rattle.desk_state.specs.People.{may_ask, mistaken, not_his_role}
use Rattle.desk_state.specs.Decide as d
use Rattle.desk_state.specs.Decide.{decide}
use Rattle.desk_state.specs.Allowed.{IsAcknowledged, FollowsIf, IsAlertAfter, IsEffectOf, IsUnused, DecisionOf, IsEntryOf, IsAfter, IsKeptOf, IsPermitted, IsSaidTo, MayLeadTo, MayTickTo, LeavesAlert}
use Rattle.desk_state.proofs.AllowedLaws.{decision_is, full_says}
use Rattle.desk_io.proofs.Bytes.{same_bytes}
use Rattle.desk_state.proofs.Passed.{so}

-- Who may make a call.

-- the person has a role that the ask is for
abbrev pub HasRole : Option Actor → Ask → Type 0
HasRole None a = ⊥
HasRole (Some person) a = may_ask a person.role ≡ true

pub role_by : (o : Option Actor) (a : Ask) → not_his_role o a ≡ None → HasRole o a
role_by None a e = absurd (cc)
role_by (Some person) a e = so (may_ask a person.role) _ e

-- a call that isn't refused
abbrev pub Goes : Result Decision Refusal → Type 0
Goes (Err refusal) = ⊥
Goes (Ok decision) = Unit {0}

unless_goes : (o : Option Refusal) (rest : Result Decision Refusal) → Goes (unless o rest) → o ≡ None
unless_goes None rest goes = refl
unless_goes (Some x) rest goes = absurd goes

pub decided_role : (s : State) (call : Call) → Goes (decide s call) → HasRole (actor_of s.tables call.actor) call.ask
unfolding decide
decided_role s call goes = role_by (actor_of s.tables call.actor) call.ask (unless_goes (not_his_role (actor_of s.tables call.actor) call.ask) (d.decide_numbered (d.is_view call.ask) s call) goes)

pub permitted_by : (s : State) (call : Call) (o : Option Actor) → actor_of s.tables call.actor ≡ o → mistaken o call.key ≡ None → HasRole o call.ask → IsPermitted s call
permitted_by s call None is right has = absurd has
permitted_by s call (Some person) is right has = record {
  person = person;
  known = is;
  key = same_bytes person.key call.key (so (bytes_eq person.key call.key) _ right);
  role = has;
}

said_to : (s : State) (call : Call) (reply : Reply) → IsPermitted s call → IsSaidTo s call reply
said_to s call (Refused refusal) is = tt
said_to s call (Seen text) is = is
said_to s call (Done made) is = is

-- What a step leaves.

-- what an event leaves of an alert

seen_left : (seen id : ℕ) (a : Alert) → a.release ≡ id → (id ≡ seen → Some (acknowledged_if seen a) ≡ Some (record a { acknowledged = true })) × (id ≢ seen → Some (acknowledged_if seen a) ≡ Some a)
seen_left seen id a is = (λ e. rw (eq-eqb a.release seen (is ∙ e)) refl, λ ne. rw (ne_eqb a.release seen (λ e. ne (sym is ∙ e))) refl)

option_left : (seen id : ℕ) (o : Option Alert) → IfSome o (IsOf id) → (id ≡ seen → IsAcknowledged o (option_map (acknowledged_if seen) o)) × (id ≢ seen → option_map (acknowledged_if seen) o ≡ o)
option_left seen id None is = (λ e. refl, λ ne. refl)
option_left seen id (Some a) is = seen_left seen id a is

take_left : (id gone : ℕ) (o : Option Alert) → (id ≡ gone → cond (eqb id gone) None o ≡ None) × (id ≢ gone → cond (eqb id gone) None o ≡ o)
take_left id gone o = (λ e. rw (eq-eqb id gone e) refl, λ ne. rw (ne_eqb id gone ne) refl)

is_left : (on : OnAlerts) (id : ℕ) (o : Option Alert) → IfSome o (IsOf id) → LeavesAlert on id o (kept_alert on id o)
is_left on_alerts.Nothing id o is = refl
is_left (on_alerts.Take gone) id o is = take_left id gone o
is_left (on_alerts.Acknowledge seen) id o is = option_left seen id o is

follows_if : (failing : Option (List Finding)) (left : Option Alert) (r : Release) (moment : ℕ) → FollowsIf failing left r moment (alert_for failing left r moment)
follows_if None left r moment = refl
follows_if (Some findings) left r moment = follows left r.id r.holder findings moment

alert_after_one : (does : Effect) (e : Entry) (s : State) (r : Release) → alert_at r.id (judged_all (effected does s)) ≡ judged (effected does s) r
    → IsAlertAfter does s (entered e (effected does s)) r
alert_after_one does e s r is =
    let t : State = effected does s in
    record {
      left = kept_alert does.on_alerts r.id (alert_at r.id s.alerts);
      is_left = is_left does.on_alerts r.id (alert_at r.id s.alerts) (found_of r.id s.alerts);
      follows = subst (λ (o : Option Alert). FollowsIf (failing_of (grounds_of t) r) (kept_alert does.on_alerts r.id (alert_at r.id s.alerts)) r t.moment o) (sym is)
          (subst (λ (left : Option Alert). FollowsIf (failing_of (grounds_of t) r) left r t.moment (alert_for (failing_of (grounds_of t) r) (alert_at r.id t.alerts) r t.moment))
          (alerts_kept does.on_alerts r.id s.alerts) (follows_if (failing_of (grounds_of t) r) (alert_at r.id t.alerts) r t.moment));
    }

alerts_after_all : (does : Effect) (e : Entry) (s : State) (rs : List Release) → Agrees (judged (effected does s)) (judged_all (effected does s)) rs
    → AllByRecursion (IsAlertAfter does s (entered e (effected does s))) rs
alerts_after_all does e s [] agrees = tt
alerts_after_all does e s (r ∷ rs) agrees = (alert_after_one does e s r agrees.0, alerts_after_all does e s rs agrees.1)

effect_after : (does : Effect) (e : Entry) (s : State) → EffectFits s does → Sound s → IsAfter does e s (entered e (effected does s))
effect_after does e s fits sound =
    let t : State = effected does s in
    record {
      judged = refl;
      tables = refl;
      moment = refl;
      reports = refl;
      deferrals = refl;
      releases = refl;
      alerts = alerts_after_all does e s t.releases (agrees_all (judged t) 0 t.releases t.counters.next_release (judged_is t) (releases_rise s does.on_releases fits.releases sound.ids));
      floors = refl;
      entries = refl;
      events = refl;
    }

-- the entry of a call
entry_is : (lane : ℕ) (call : Call) (reply : Reply) → IsEntryOf lane call reply (entry lane (what.Asked (without_key call) reply))
entry_is lane call reply = record { its_lane = refl; its_call = (record { actor = refl; key = refl; number = refl; asked = refl }, refl) }

kept_is : (s : State) (lane : ℕ) (call : Call) (effect : Effect) (made : DoneType) → IsUnused s call → IsKeptOf s (accepted s lane call made effect).state call effect made
kept_is s lane call effect made unused = record { unused = unused; kept = refl }

accepted_leads : (s : State) (lane : ℕ) (call : Call) (effect : Effect) (made : DoneType) → EffectFits s effect → Sound s → IsPermitted s call → IsUnused s call
    → IsEffectOf s call.actor call.ask effect made → MayLeadTo lane call s (accepted s lane call made effect).state (accepted s lane call made effect).reply
accepted_leads s lane call effect made fits sound permitted unused does =
    let e : Entry = entry lane (what.Asked (without_key call) (Done made)) in
    inr (permitted, effect, made, does, refl, e, entry_is lane call (Done made), kept_is s lane call effect made unused, effect_after effect e s fits sound)

enter_leads : (full : Bool) (s : State) (lane : ℕ) (call : Call) (effect : Effect) (made : DoneType) → EffectFits s effect → Sound s → IsPermitted s call → IsUnused s call
    → IsEffectOf s call.actor call.ask effect made → MayLeadTo lane call s (enter full s lane call made effect).state (enter full s lane call made effect).reply
enter_leads true s lane call effect made fits sound permitted unused does = inl (refl, (tt, tt))
enter_leads false s lane call effect made fits sound permitted unused does = accepted_leads s lane call effect made fits sound permitted unused does

finish_leads : (s : State) (lane : ℕ) (call : Call) (decision : Result Decision Refusal) → DecisionFits s decision → Sound s → (Goes decision → IsPermitted s call) → DecisionOf s call decision
    → MayLeadTo lane call s (finish s lane call decision).state (finish s lane call decision).reply
finish_leads s lane call (Err refusal) fits sound permitted is = inl (refl, (tt, tt))
finish_leads s lane call (Ok (Show reply)) fits sound permitted is = inl (refl, (is, said_to s call reply (permitted tt)))
finish_leads s lane call (Ok (Do made effect)) fits sound permitted is = enter_leads (is_full_for s call.ask) s lane call effect made fits sound (permitted tt) is.0 is.1

do_leads : (s : State) (lane : ℕ) (call : Call) (o : Option Refusal) → Sound s → InBounds s → CallHasForms call → mistaken (actor_of s.tables call.actor) call.key ≡ o
    → MayLeadTo lane call s (do_unless o s lane call).state (do_unless o s lane call).reply
unfolding do_call
do_leads s lane call (Some refusal) sound kept form is = inl (refl, (tt, tt))
do_leads s lane call None sound kept form is =
    finish_leads s lane call (decide s call) (decision_fits s call sound kept form) sound (λ goes. permitted_by s call (actor_of s.tables call.actor) refl is (decided_role s call goes)) (decision_is s call sound)

-- a call leads to no other state than its ask may
pub call_leads : (s t : State) (lane : ℕ) (call : Call) (reply : Option Reply) → Sound s → InBounds s → CallHasForms call → t ≡ (answer_call s lane call).state → reply ≡ (answer_call s lane call).reply
    → MayLeadTo lane call s t reply
unfolding answer_call
call_leads s t lane call reply sound kept form one two =
    subst (λ (u : State). MayLeadTo lane call s u reply) (sym one)
    (subst (λ (x : Option Reply). MayLeadTo lane call s (answer_call s lane call).state x) (sym two) (do_leads s lane call (mistaken (actor_of s.tables call.actor) call.key) sound kept form refl))

tick_leads_by : (full : Bool) (s : State) (lane to : ℕ) → is_full s ≡ full → Sound s → IsLater s.moment to → MayTickTo lane to s (tick_unless full s lane to).state (tick_unless full s lane to).reply
tick_leads_by true s lane to full sound shown = inl (refl, full_says s full, refl)
tick_leads_by false s lane to full sound shown =
    inr (refl, entry lane (what.Tick to), refl, refl, append-nil s.kept, effect_after (tick to) (entry lane (what.Tick to)) s (tick_fits s to shown) sound)

-- a tick leads to no other state than it may
pub tick_leads : (s t : State) (lane to : ℕ) (reply : Option Reply) → Sound s → IsLater s.moment to → t ≡ (tick_to s lane to).state → reply ≡ (tick_to s lane to).reply → MayTickTo lane to s t reply
unfolding tick_to
tick_leads s t lane to reply sound shown one two =
    subst (λ (u : State). MayTickTo lane to s u reply) (sym one)
    (subst (λ (x : Option Reply). MayTickTo lane to s (tick_to s lane to).state x) (sym two) (tick_leads_by (is_full s) s lane to refl sound shown))

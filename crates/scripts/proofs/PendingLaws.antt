-- A pending plan stays until an ask proposes another, or the revision isn't pending any more.
use Rattle.std.proofs.Common.{◌≡◌, ◌⊎◌, inl, inr, ℕ, ◌+◌, ◌<◌, Bool, true, false, cond, eqb, List, [], ◌∷◌, ◌++◌, Option, None, Some, Ok, Err, refl, ap, sym, ◌∙◌, subst, arith}
use Rattle.std.specs.Prelude.{Result, option_and_then}
use Rattle.std.specs.Option.{option_map}
use Rattle.std.proofs.lemmas.Bool.{eqb-true, ne_eqb}
use Rattle.asks.specs.declared.call.Ask.{Ask}
use Rattle.asks.specs.declared.call.Ask.TheVariants as ask
use Rattle.asks.specs.declared.call.Call.{Call}
use Rattle.asks.specs.declared.reply.Done.{Done as DoneType}
use Rattle.asks.specs.declared.reply.Refusal.{Refusal}
use Rattle.desk_state.proofs.AllowedLaws.{decision_is}
use Rattle.desk_state.proofs.ToldLaws.{found_id}
use Rattle.desk_state.specs.Allowed.{BothAre, DecisionOf, GainsDispatcher, GainsWeather, IsAmending, IsCancelling, IsCompleting, IsConcurring, IsDeparting, IsEffectOf, IsFresh, IsNextRevision, IsPreparing, IsSigning, IsStopping, OfHeld, admits, defers, clears, drafts, prepares, signs, concurs, amends, cancels, departs, stops, completes, acknowledges, sweeps, purges}
use Rattle.desk_state.specs.Decide.{decide}
use Rattle.desk_state.specs.Events.{put_release, without_release, releases_after}
use Rattle.desk_state.specs.Legal.{next}
use Rattle.desk_state.specs.Sound.{Rise, Sound}
use Rattle.desk_state.specs.State.{State, is_full, is_full_for, release_at}
use Rattle.desk_state.specs.Step.{do_call, enter, finish, tick_to, tick_unless}
use Rattle.desk_state.specs.declared.effect.Decision.{Decision}
use Rattle.desk_state.specs.declared.effect.Decision.TheVariants.{Show, Do}
use Rattle.desk_state.specs.declared.effect.Effect.{Effect}
use Rattle.desk_state.specs.declared.entry.What.{What}
use Rattle.desk_state.specs.declared.entry.What.TheVariants as what
use Rattle.plan.specs.declared.flights.Plan.{Plan}
use Rattle.plan.specs.declared.release.Phase.{Phase}
use Rattle.plan.specs.declared.release.Release.{Release}
use Rattle.plan.specs.declared.release.Revision.{Revision}
use Rattle.scripts.specs.Proposals.{IsProposedBy, Proposes, pending_plan, pending_plan_at, pending_plan_in}

some_is : {X : Type 0} (x y : X) → Some x ≡ Some y → x ≡ y
some_is x y is = cc

no_plan : (plan : Plan) → None ≡ Some plan → ⊥
no_plan plan is = absurd (cc)

either : {A B C : Type 0} → A ⊎ B → (B → A ⊎ C) → A ⊎ C
either (inl a) then = inl a
either (inr b) then = then b

-- ---- a release among others that change

-- the release with this id is a given one, and this plan is pending for it
abbrev IsPendingOf : ℕ → Plan → Release → Type 0
IsPendingOf id plan r = (r.id ≡ id) × (pending_plan r ≡ Some plan)

from_tail : {X : Type 0} (q : Release) (plan : Plan) (now before : Option Release) (b : Bool) → (option_and_then pending_plan now ≡ Some plan → (option_and_then pending_plan before ≡ Some plan) ⊎ X)
    → option_and_then pending_plan (cond b (Some q) now) ≡ Some plan → (option_and_then pending_plan (cond b (Some q) before) ≡ Some plan) ⊎ X
from_tail q plan now before true later is = inl is
from_tail q plan now before false later is = later is

from_head : (id : ℕ) (r q : Release) (rest : Option Release) (plan : Plan) (b c : Bool) → eqb r.id id ≡ b → eqb q.id id ≡ c → q.id ≡ r.id
    → option_and_then pending_plan (cond b (Some r) rest) ≡ Some plan → (option_and_then pending_plan (cond c (Some q) rest) ≡ Some plan) ⊎ IsPendingOf id plan r
from_head id r q rest plan true c here there same is = inr (eqb-true r.id id here, is)
from_head id r q rest plan false false here there same is = inl is
from_head id r q rest plan false true here there same is = absurd (cc)

from_put_by : (id : ℕ) (r q : Release) (qs : List Release) (plan : Plan) (b : Bool) → eqb q.id r.id ≡ b
    → (pending_plan_in id (put_release r qs) ≡ Some plan → (pending_plan_in id qs ≡ Some plan) ⊎ IsPendingOf id plan r)
    → pending_plan_in id (cond b (r ∷ qs) (q ∷ put_release r qs)) ≡ Some plan → (pending_plan_in id (q ∷ qs) ≡ Some plan) ⊎ IsPendingOf id plan r
from_put_by id r q qs plan true same later is = from_head id r q (release_at id qs) plan (eqb r.id id) (eqb q.id id) refl refl (eqb-true q.id r.id same) is
from_put_by id r q qs plan false same later is = from_tail q plan (release_at id (put_release r qs)) (release_at id qs) (eqb q.id id) later is

from_put : (id : ℕ) (r : Release) (rs : List Release) (plan : Plan) → pending_plan_in id (put_release r rs) ≡ Some plan → (pending_plan_in id rs ≡ Some plan) ⊎ IsPendingOf id plan r
from_put id r [] plan is = inl is
from_put id r (q ∷ qs) plan is = from_put_by id r q qs plan (eqb q.id r.id) refl (λ later. from_put id r qs plan later) is

from_new : (id : ℕ) (r : Release) (plan : Plan) (b : Bool) → eqb r.id id ≡ b → option_and_then pending_plan (cond b (Some r) None) ≡ Some plan → IsPendingOf id plan r
from_new id r plan true here is = (eqb-true r.id id here, is)
from_new id r plan false here is = absurd (no_plan plan is)

from_file : (id : ℕ) (r : Release) (rs : List Release) (plan : Plan) → pending_plan_in id (rs ++ r ∷ []) ≡ Some plan → (pending_plan_in id rs ≡ Some plan) ⊎ IsPendingOf id plan r
from_file id r [] plan is = inr (from_new id r plan (eqb r.id id) refl is)
from_file id r (q ∷ qs) plan is = from_tail q plan (release_at id (qs ++ r ∷ [])) (release_at id qs) (eqb q.id id) (λ later. from_file id r qs plan later) is

none_by : (q : Release) (later : Option Release) (b : Bool) → b ≡ false → later ≡ None → cond b (Some q) later ≡ None
none_by q later true other none = absurd (cc)
none_by q later false other none = none

none_above : (id low top : ℕ) (rs : List Release) → Rise low rs top → id < low → release_at id rs ≡ None
none_above id low top [] rise under = refl
none_above id low top (q ∷ qs) rise under =
    let above = rise.0 in
    none_by q (release_at id qs) (eqb q.id id) (ne_eqb q.id id (λ same. absurd (omega (arith, above, under, same)))) (none_above id (q.id + 1) top qs rise.1 (omega (arith, above, under)))

from_gone : (id top : ℕ) (q : Release) (qs : List Release) (plan : Plan) (b : Bool) → eqb q.id id ≡ b → Rise (q.id + 1) qs top → pending_plan_in id qs ≡ Some plan
    → option_and_then pending_plan (cond b (Some q) (release_at id qs)) ≡ Some plan
from_gone id top q qs plan false here rise is = is
from_gone id top q qs plan true here rise is =
    let same : q.id ≡ id = eqb-true q.id id here in
    absurd (no_plan plan (subst (λ (o : Option Release). option_and_then pending_plan o ≡ Some plan) (none_above id (q.id + 1) top qs rise (omega (arith, same))) is))

from_stayed : (q : Release) (plan : Plan) (now before : Option Release) (b : Bool) → (option_and_then pending_plan now ≡ Some plan → option_and_then pending_plan before ≡ Some plan)
    → option_and_then pending_plan (cond b (Some q) now) ≡ Some plan → option_and_then pending_plan (cond b (Some q) before) ≡ Some plan
from_stayed q plan now before true later is = is
from_stayed q plan now before false later is = later is

from_without_by : (id gone top : ℕ) (q : Release) (qs : List Release) (plan : Plan) (b : Bool) → Rise (q.id + 1) qs top
    → (pending_plan_in id (without_release gone qs) ≡ Some plan → pending_plan_in id qs ≡ Some plan)
    → pending_plan_in id (cond b qs (q ∷ without_release gone qs)) ≡ Some plan → pending_plan_in id (q ∷ qs) ≡ Some plan
from_without_by id gone top q qs plan true rise later is = from_gone id top q qs plan (eqb q.id id) refl rise is
from_without_by id gone top q qs plan false rise later is = from_stayed q plan (release_at id (without_release gone qs)) (release_at id qs) (eqb q.id id) later is

from_without : (id gone low top : ℕ) (rs : List Release) (plan : Plan) → Rise low rs top → pending_plan_in id (without_release gone rs) ≡ Some plan → pending_plan_in id rs ≡ Some plan
from_without id gone low top [] plan rise is = is
from_without id gone low top (q ∷ qs) plan rise is = from_without_by id gone top q qs plan (eqb q.id gone) rise.1 (λ later. from_without id gone (q.id + 1) top qs plan rise.1 later) is

-- ---- revisions

same_plans : (R : Revision → Revision → Type 0) (one two : Option Revision) → ((v w : Revision) → R v w → w.plan ≡ v.plan) → BothAre R one two
    → option_map (λ v. v.plan) two ≡ option_map (λ v. v.plan) one
same_plans R None two each both = absurd both
same_plans R (Some v) None each both = absurd both
same_plans R (Some v) (Some w) each both = ap (λ (p : Plan). Some p) (each v w both)

fresh_plan : (number : ℕ) (proposed plan : Plan) (o : Option Revision) → IsFresh number proposed o → option_map (λ v. v.plan) o ≡ Some plan → proposed ≡ plan
fresh_plan number proposed plan None fresh is = absurd fresh
fresh_plan number proposed plan (Some v) fresh is = sym fresh.1 ∙ some_is v.plan plan is

next_fresh : (s : State) (proposed : Plan) (phase : Phase) (pending active now : Option Revision) (number : ℕ) → IsNextRevision s proposed phase pending active now number → IsFresh number proposed now
next_fresh s proposed phase (Some v) active now number is = is.2
next_fresh s proposed phase None (Some v) now number is = is.2
next_fresh s proposed phase None None now number is = absurd is

none_pending : (r : Release) (plan : Plan) → r.pending ≡ None → pending_plan r ≡ Some plan → ⊥
none_pending r plan none is = no_plan plan (sym (ap (option_map (λ v. v.plan)) none) ∙ is)

-- ---- one ask

module _ (s : State) (id : ℕ) (plan : Plan) where
  -- the plan was pending before, or the ask proposes it
  abbrev WasPending : Ask → Type 0
  WasPending a = (pending_plan_in id s.releases ≡ Some plan) ⊎ Proposes id plan a

  put_held : (a : Ask) (at : ℕ) (R : Release → Release → Type 0) (r : Release) (o : Option Release)
      → ((q : Release) → release_at at s.releases ≡ Some q → R q r → r.id ≡ id → pending_plan r ≡ Some plan → WasPending a)
      → release_at at s.releases ≡ o → OfHeld R o r → pending_plan_in id (put_release r s.releases) ≡ Some plan → WasPending a
  put_held a at R r None each found is pending = absurd is
  put_held a at R r (Some q) each found is pending = either (from_put id r s.releases plan pending) (λ new. each q found is new.0 new.1)

  same_release : (at : ℕ) (q r : Release) → release_at at s.releases ≡ Some q → r.id ≡ q.id → pending_plan r ≡ pending_plan q → r.id ≡ id → pending_plan r ≡ Some plan
      → pending_plan_in id s.releases ≡ Some plan
  same_release at q r found same plans here is =
      let own : at ≡ id = sym (found_id at s.releases q found) ∙ sym same ∙ here in
      ap (λ n. pending_plan_in n s.releases) (sym own) ∙ ap (option_and_then pending_plan) found ∙ sym plans ∙ is

  ask_pending : (actor : List ℕ) {a : Ask} {does : Effect} {made : DoneType} → Rise 0 s.releases s.counters.next_release → IsEffectOf s actor a does made
      → pending_plan_in id (releases_after does.on_releases s.releases) ≡ Some plan → WasPending a
  ask_pending actor rise (admits is) pending = inl pending
  ask_pending actor rise (defers is) pending = inl pending
  ask_pending actor rise (clears is) pending = inl pending
  ask_pending actor rise (drafts {plan = proposed} {r = r} is) pending =
      either (from_file id r s.releases plan pending) (λ new. inr (fresh_plan 1 proposed plan r.pending is.pending new.1))
  ask_pending actor rise (prepares {id = at} {r = r} is shown) pending =
      put_held (ask.Prepare at) at (IsPreparing s actor) r (release_at at s.releases)
      (λ q found of here new. inl (same_release at q r found of.same.id (same_plans (GainsWeather s q) q.pending r.pending (λ v w g. g.plan) of.pending) here new)) refl is pending
  ask_pending actor rise (signs {id = at} {number = number} {digest = digest} {r = r} is) pending =
      put_held (ask.Sign at number digest) at (IsSigning s actor number digest) r (release_at at s.releases)
      (λ q found of here new. inl (same_release at q r found of.same.id (same_plans (GainsDispatcher s actor number digest q) q.pending r.pending (λ v w g. g.same.plan) of.pending) here new)) refl is pending
  ask_pending actor rise (concurs {id = at} {number = number} {digest = digest} {r = r} is) pending =
      put_held (ask.Concur at number digest) at (IsConcurring s actor number digest) r (release_at at s.releases)
      (λ q found of here new. absurd (none_pending r plan of.pending new)) refl is pending
  ask_pending actor rise (amends {id = at} {number = number} {plan = proposed} {r = r} is) pending =
      put_held (ask.Amend at proposed) at (IsAmending s actor proposed number) r (release_at at s.releases)
      (λ q found of here new. inr (sym (found_id at s.releases q found) ∙ sym of.same.id ∙ here, fresh_plan number proposed plan r.pending (next_fresh s proposed q.phase q.pending q.active r.pending number of.pending) new))
      refl is pending
  ask_pending actor rise (cancels {id = at} {r = r} is) pending =
      put_held (ask.Cancel at) at (IsCancelling s actor) r (release_at at s.releases) (λ q found of here new. absurd (none_pending r plan of.pending new)) refl is pending
  ask_pending actor rise (departs {id = at} {leg = leg} {r = r} is) pending =
      put_held (ask.Depart at leg) at (IsDeparting s actor leg) r (release_at at s.releases) (λ q found of here new. absurd (none_pending r plan of.pending new)) refl is pending
  ask_pending actor rise (stops {id = at} {leg = leg} {r = r} is) pending =
      put_held (ask.Arrive at leg) at (IsStopping s actor leg) r (release_at at s.releases) (λ q found of here new. absurd (none_pending r plan of.arrives.pending new)) refl is pending
  ask_pending actor rise (completes {id = at} {leg = leg} {r = r} is) pending =
      put_held (ask.Arrive at leg) at (IsCompleting s actor leg) r (release_at at s.releases) (λ q found of here new. absurd (none_pending r plan of.arrives.pending new)) refl is pending
  ask_pending actor rise (acknowledges found is) pending = inl pending
  ask_pending actor rise (sweeps is) pending = inl pending
  ask_pending actor rise (purges {q = q} found is) pending = inl (from_without id q.id 0 s.counters.next_release s.releases plan rise pending)

-- ---- one event

enter_pending : (full : Bool) (s : State) (lane : ℕ) (call : Call) (made : DoneType) (effect : Effect) → IsEffectOf s call.actor call.ask effect made → Rise 0 s.releases s.counters.next_release
    → (id : ℕ) (plan : Plan) → pending_plan_at id (enter full s lane call made effect).state ≡ Some plan → WasPending s id plan call.ask
enter_pending true s lane call made effect of rise id plan pending = inl pending
enter_pending false s lane call made effect of rise id plan pending = ask_pending s id plan call.actor rise of pending

call_pending : (s : State) (lane : ℕ) (call : Call) (decision : Result Decision Refusal) → DecisionOf s call decision → Rise 0 s.releases s.counters.next_release
    → (id : ℕ) (plan : Plan) → pending_plan_at id (finish s lane call decision).state ≡ Some plan → WasPending s id plan call.ask
call_pending s lane call (Err refusal) decided rise id plan pending = inl pending
call_pending s lane call (Ok (Show reply)) decided rise id plan pending = inl pending
call_pending s lane call (Ok (Do made effect)) decided rise id plan pending = enter_pending (is_full_for s call.ask) s lane call made effect decided.1 rise id plan pending

tick_pending : (full : Bool) (s : State) (lane to id : ℕ) (plan : Plan) → pending_plan_at id (tick_unless full s lane to).state ≡ Some plan → pending_plan_at id s ≡ Some plan
tick_pending true s lane to id plan pending = pending
tick_pending false s lane to id plan pending = pending

-- a plan that is pending after a tick was pending before it
pub ticked_pending : (s : State) (lane to id : ℕ) (plan : Plan) → pending_plan_at id (next s lane (what.Tick to)) ≡ Some plan → pending_plan_at id s ≡ Some plan
unfolding tick_to
ticked_pending s lane to id plan pending = tick_pending (is_full s) s lane to id plan pending

-- a plan that is pending after an event was pending before it, or the event proposes it
pub next_pending : (s : State) (lane : ℕ) (w : What) → Sound s → (id : ℕ) (plan : Plan) → pending_plan_at id (next s lane w) ≡ Some plan → (pending_plan_at id s ≡ Some plan) ⊎ IsProposedBy id plan w
unfolding do_call tick_to
next_pending s lane (what.Tick to) sound id plan pending = inl (tick_pending (is_full s) s lane to id plan pending)
next_pending s lane (what.Asked call reply) sound id plan pending = call_pending s lane call (decide s call) (decision_is s call sound) sound.ids id plan pending

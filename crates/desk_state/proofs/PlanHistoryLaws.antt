-- Every step keeps that active plans change only at concurrences, and are the last of their lines.
use Rattle.std.proofs.Common.{◌≡◌, ◌⊎◌, inl, inr, ℕ, zero, suc, ◌+◌, ◌<◌, ◌≤◌, ◌==◌, Bool, true, false, cond, eqb, List, [], ◌∷◌, ◌++◌, length, length-append, append-nil, append_assoc, Option, None, Some, IfSome, refl, ap, sym, ◌∙◌, subst, eq-eqb, arith}
use Rattle.std.specs.Prelude.{nat_le, take, option_and_then, option_to_list}
use Rattle.std.specs.List.{last_or}
use Rattle.std.specs.Option.{option_map}
use Rattle.std.proofs.Math.Seq.{take-append_seam, take-length}
use Rattle.std.proofs.lemmas.Bool.{eqb-true, leb-false, leb-true, ne_eqb}
use Rattle.std.proofs.lemmas.List.{take-append-le}
use Rattle.plan.specs.declared.flights.Plan.{Plan}
use Rattle.plan.specs.declared.release.Release.{Release}
use Rattle.plan.specs.declared.release.Revision.{Revision}
use Rattle.asks.specs.declared.call.Ask.{Ask}
use Rattle.asks.specs.declared.call.Ask.TheVariants as ask
use Rattle.asks.specs.declared.reply.Done.{Done as DoneType}
use Rattle.desk_state.specs.declared.effect.Effect.{Effect}
use Rattle.desk_state.specs.declared.entry.Entry.{Entry}
use Rattle.desk_state.specs.declared.entry.What.{What}
use Rattle.desk_state.specs.declared.entry.What.TheVariants as what
use Rattle.desk_state.specs.Allowed.{IsEffectOf, admits, defers, clears, drafts, prepares, signs, concurs, amends, cancels, departs, stops, completes, acknowledges, purges, sweeps, OfHeld, BothAre, GainsCaptain, IsPreparing, IsSigning, IsConcurring, IsAmending, IsCancelling, IsDeparting, IsStopping, IsCompleting}
use Rattle.desk_state.specs.Events.{put_release, without_release, releases_after}
use Rattle.desk_state.specs.Legal.{IsHistory, after_entries, next}
use Rattle.desk_state.specs.PlanHistory.{AreReplacedInTurn, IsKeptOrReplaced, IsLastOfLine, IsReplacedBetween, IsReplacedBy, Replaces, active_plan, active_plan_after, active_plan_at, active_plan_in, concurs as replaced_by_concurring, line_of, made_active, made_active_along, made_active_by, purges as replaced_by_purging}
use Rattle.desk_state.specs.Sound.{Rise}
use Rattle.desk_state.specs.State.{State, release_at}
use Rattle.desk_state.proofs.AlertHistoryLaws.{get_front, get_last, legal_after}
use Rattle.desk_state.proofs.ForceLaws.{put_found}
use Rattle.desk_state.proofs.ToldLaws.{found_id}

-- ---- the active plan of a release among others that change

put_other_by : (id : ℕ) (r q : Release) (qs : List Release) (b : Bool) → eqb q.id r.id ≡ b → eqb r.id id ≡ false → release_at id (put_release r qs) ≡ release_at id qs
    → release_at id (cond b (r ∷ qs) (q ∷ put_release r qs)) ≡ release_at id (q ∷ qs)
put_other_by id r q qs true same other rest =
    let there : eqb q.id id ≡ false = ap (λ n. eqb n id) (eqb-true q.id r.id same) ∙ other in
    rw (other, there) refl
put_other_by id r q qs false same other rest = ap (λ o. cond (eqb q.id id) (Some q) o) rest

put_other : (id : ℕ) (r : Release) (rs : List Release) → eqb r.id id ≡ false → release_at id (put_release r rs) ≡ release_at id rs
put_other id r [] other = refl
put_other id r (q ∷ qs) other = put_other_by id r q qs (eqb q.id r.id) refl other (put_other id r qs other)

filed_by : (r q : Release) (now later : Option Release) (b : Bool) → option_and_then active_plan later ≡ option_and_then active_plan now
    → option_and_then active_plan (cond b (Some q) later) ≡ option_and_then active_plan (cond b (Some q) now)
filed_by r q now later true rest = refl
filed_by r q now later false rest = rest

new_by : (r : Release) (b : Bool) → r.active ≡ None → option_and_then active_plan (cond b (Some r) None) ≡ None
new_by r true none = ap (option_map (λ v. v.plan)) none
new_by r false none = refl

-- a new release has no active plan
filed : (id : ℕ) (r : Release) (rs : List Release) → r.active ≡ None → active_plan_in id (rs ++ r ∷ []) ≡ active_plan_in id rs
filed id r [] none = new_by r (eqb r.id id) none
filed id r (q ∷ qs) none = filed_by r q (release_at id qs) (release_at id (qs ++ r ∷ [])) (eqb q.id id) (filed id r qs none)

none_above_by : (q : Release) (later : Option Release) (b : Bool) → b ≡ false → later ≡ None → cond b (Some q) later ≡ None
none_above_by q later true other none = absurd (cc)
none_above_by q later false other none = none

none_above : (id low top : ℕ) (rs : List Release) → Rise low rs top → id < low → release_at id rs ≡ None
none_above id low top [] rise under = refl
none_above id low top (q ∷ qs) rise under =
    let above = rise.0 in
    none_above_by q (release_at id qs) (eqb q.id id) (ne_eqb q.id id (λ same. absurd (omega (arith, above, under, same)))) (none_above id (q.id + 1) top qs rise.1 (omega (arith, above, under)))

gone_by : (id top : ℕ) (q : Release) (qs : List Release) (b : Bool) → eqb q.id id ≡ b → Rise (q.id + 1) qs top → release_at id (without_release id qs) ≡ None
    → release_at id (cond b qs (q ∷ without_release id qs)) ≡ None
gone_by id top q qs true same rise rest = none_above id (q.id + 1) top qs rise (let here = eqb-true q.id id same in omega (arith, here))
gone_by id top q qs false same rise rest = rw same rest

-- no release has the id of a release that was removed
gone : (id low top : ℕ) (rs : List Release) → Rise low rs top → release_at id (without_release id rs) ≡ None
gone id low top [] rise = refl
gone id low top (q ∷ qs) rise = gone_by id top q qs (eqb q.id id) refl rise.1 (gone id (q.id + 1) top qs rise.1)

stays_by : (id removed : ℕ) (q : Release) (qs : List Release) (b : Bool) → eqb q.id removed ≡ b → eqb removed id ≡ false
    → release_at id (without_release removed qs) ≡ release_at id qs → release_at id (cond b qs (q ∷ without_release removed qs)) ≡ release_at id (q ∷ qs)
stays_by id removed q qs true same other rest =
    let here : eqb q.id id ≡ false = ap (λ n. eqb n id) (eqb-true q.id removed same) ∙ other in
    rw here refl
stays_by id removed q qs false same other rest = ap (λ o. cond (eqb q.id id) (Some q) o) rest

stays : (id removed : ℕ) (rs : List Release) → eqb removed id ≡ false → release_at id (without_release removed rs) ≡ release_at id rs
stays id removed [] other = refl
stays id removed (q ∷ qs) other = stays_by id removed q qs (eqb q.id removed) refl other (stays id removed qs other)

-- ---- one ask

module _ (s : State) (id : ℕ) where
  -- the active plan is as before, or the ask replaced it
  abbrev pub IsKeptBy : Ask → List Release → Type 0
  IsKeptBy a rs = (active_plan_in id rs ≡ active_plan_in id s.releases) ⊎ Replaces s id a (active_plan_in id rs)

  -- a release takes the place of one with the same active revision
  put_by : (a : Ask) (at : ℕ) (q r : Release) (b : Bool) → eqb r.id id ≡ b → release_at at s.releases ≡ Some q → r.id ≡ q.id → r.active ≡ q.active
      → IsKeptBy a (put_release r s.releases)
  put_by a at q r true here found same active =
      let own : at ≡ id = sym (found_id at s.releases q found) ∙ sym same ∙ eqb-true r.id id here in
      let before : release_at id s.releases ≡ Some q = ap (λ n. release_at n s.releases) (sym own) ∙ found in
      let after : release_at id (put_release r s.releases) ≡ Some r = put_found id r s.releases q before ∙ ap (λ b. Some (cond b r q)) here in
      inl (ap (option_and_then active_plan) after ∙ ap (option_map (λ v. v.plan)) active ∙ sym (ap (option_and_then active_plan) before))
  put_by a at q r false here found same active = inl (ap (option_and_then active_plan) (put_other id r s.releases here))

  held_put : (R : Release → Release → Type 0) (a : Ask) (at : ℕ) (r : Release) (o : Option Release) → ((q : Release) → R q r → r.id ≡ q.id)
      → ((q : Release) → R q r → r.active ≡ q.active) → release_at at s.releases ≡ o → OfHeld R o r → IsKeptBy a (put_release r s.releases)
  held_put R a at r None same active found is = absurd is
  held_put R a at r (Some q) same active found is = put_by a at q r (eqb r.id id) refl found (same q is) (active q is)

  -- a captain concurs with the pending revision
  concurred_with : (actor : List ℕ) (number at : ℕ) (digest : List ℕ) (q r : Release) (pending active : Option Revision) → at ≡ id → release_at at s.releases ≡ Some q
      → q.pending ≡ pending → r.active ≡ active → BothAre (GainsCaptain s actor number digest q) pending active → (o : Option Plan) → o ≡ active_plan r
      → Replaces s id (ask.Concur at number digest) o
  concurred_with actor number at digest q r None active own found pending is both o plan = absurd both
  concurred_with actor number at digest q r (Some v) None own found pending is both o plan = absurd both
  concurred_with actor number at digest q r (Some v) (Some w) own found pending is both o plan =
      let new : o ≡ Some v.plan = plan ∙ ap (option_map (λ x. x.plan)) is ∙ ap (λ p. Some p) both.same.plan in
      let here : release_at id s.releases ≡ Some q = ap (λ n. release_at n s.releases) (sym own) ∙ found in
      subst (λ n. Replaces s id (ask.Concur n number digest) o) (sym own)
      (subst (Replaces s id (ask.Concur id number digest)) (sym new) (replaced_by_concurring here pending both.may.passes))

  concur_by : (actor : List ℕ) (number at : ℕ) (digest : List ℕ) (q r : Release) (b : Bool) → eqb r.id id ≡ b → release_at at s.releases ≡ Some q → IsConcurring s actor number digest q r
      → IsKeptBy (ask.Concur at number digest) (put_release r s.releases)
  concur_by actor number at digest q r true here found is =
      let own : at ≡ id = sym (found_id at s.releases q found) ∙ sym is.same.id ∙ eqb-true r.id id here in
      let before : release_at id s.releases ≡ Some q = ap (λ n. release_at n s.releases) (sym own) ∙ found in
      let after : release_at id (put_release r s.releases) ≡ Some r = put_found id r s.releases q before ∙ ap (λ b. Some (cond b r q)) here in
      inr (concurred_with actor number at digest q r q.pending r.active own found refl refl is.active (active_plan_in id (put_release r s.releases)) (ap (option_and_then active_plan) after))
  concur_by actor number at digest q r false here found is = inl (ap (option_and_then active_plan) (put_other id r s.releases here))

  concurred : (actor : List ℕ) (number at : ℕ) (digest : List ℕ) (r : Release) (o : Option Release) → release_at at s.releases ≡ o → OfHeld (IsConcurring s actor number digest) o r
      → IsKeptBy (ask.Concur at number digest) (put_release r s.releases)
  concurred actor number at digest r None found is = absurd is
  concurred actor number at digest r (Some q) found is = concur_by actor number at digest q r (eqb r.id id) refl found is

  purged_by : (at : ℕ) (q : Release) (b : Bool) → eqb q.id id ≡ b → Rise 0 s.releases s.counters.next_release → release_at at s.releases ≡ Some q
      → IsKeptBy (ask.Purge at) (without_release q.id s.releases)
  purged_by at q true here rise found =
      let same : q.id ≡ id = eqb-true q.id id here in
      let own : at ≡ id = sym (found_id at s.releases q found) ∙ same in
      let none : active_plan_in id (without_release q.id s.releases) ≡ None =
      ap (λ n. active_plan_in id (without_release n s.releases)) same ∙ ap (option_and_then active_plan) (gone id 0 s.counters.next_release s.releases rise) in
      inr (subst (λ n. Replaces s id (ask.Purge n) (active_plan_in id (without_release q.id s.releases))) (sym own)
      (subst (Replaces s id (ask.Purge id)) (sym none) replaced_by_purging))
  purged_by at q false here rise found = inl (ap (option_and_then active_plan) (stays id q.id s.releases here))

-- what an accepted ask does to the active plan of a release
pub ask_plan : (s : State) (actor : List ℕ) (id : ℕ) {a : Ask} {does : Effect} {made : DoneType} → Rise 0 s.releases s.counters.next_release → IsEffectOf s actor a does made
    → IsKeptBy s id a (releases_after does.on_releases s.releases)
ask_plan s actor id rise (admits is) = inl refl
ask_plan s actor id rise (defers is) = inl refl
ask_plan s actor id rise (clears is) = inl refl
ask_plan s actor id rise (drafts {r = r} is) = inl (filed id r s.releases is.active)
ask_plan s actor id {a = a} rise (prepares {id = at} {r = r} is pending) =
    held_put s id (IsPreparing s actor) a at r (release_at at s.releases) (λ q of. of.same.id) (λ q of. of.active) refl is
ask_plan s actor id {a = a} rise (signs {id = at} {number = number} {digest = digest} {r = r} is) =
    held_put s id (IsSigning s actor number digest) a at r (release_at at s.releases) (λ q of. of.same.id) (λ q of. of.active) refl is
ask_plan s actor id rise (concurs {id = at} {number = number} {digest = digest} {r = r} is) =
    concurred s id actor number at digest r (release_at at s.releases) refl is
ask_plan s actor id {a = a} rise (amends {id = at} {number = number} {plan = plan} {r = r} is) =
    held_put s id (IsAmending s actor plan number) a at r (release_at at s.releases) (λ q of. of.same.id) (λ q of. of.active) refl is
ask_plan s actor id {a = a} rise (cancels {id = at} {r = r} is) =
    held_put s id (IsCancelling s actor) a at r (release_at at s.releases) (λ q of. of.same.id) (λ q of. of.active) refl is
ask_plan s actor id {a = a} rise (departs {id = at} {leg = leg} {r = r} is) =
    held_put s id (IsDeparting s actor leg) a at r (release_at at s.releases) (λ q of. of.same.id) (λ q of. of.active) refl is
ask_plan s actor id {a = a} rise (stops {id = at} {leg = leg} {r = r} is) =
    held_put s id (IsStopping s actor leg) a at r (release_at at s.releases) (λ q of. of.arrives.same.id) (λ q of. of.arrives.active) refl is
ask_plan s actor id {a = a} rise (completes {id = at} {leg = leg} {r = r} is) =
    held_put s id (IsCompleting s actor leg) a at r (release_at at s.releases) (λ q of. of.arrives.same.id) (λ q of. of.arrives.active) refl is
ask_plan s actor id rise (acknowledges {q = q} found is) = inl refl
ask_plan s actor id rise (sweeps is) = inl refl
ask_plan s actor id rise (purges {id = at} {q = q} found is) = purged_by s id at q (eqb q.id id) refl rise found

-- ---- the history

-- an event leaves each active plan, or replaces it
abbrev pub PlansBy : State → State → What → Type 0
PlansBy s t w = (id : ℕ) → (active_plan_at id t ≡ active_plan_at id s) ⊎ IsReplacedBy s id w (active_plan_at id t)

last_on : {A : Type 0} (o : Option A) (xs ys : List A) → last_or o (xs ++ ys) ≡ last_or (last_or o xs) ys
last_on o [] ys = refl
last_on o (x ∷ xs) ys = last_on (Some x) xs ys

along_more : (id : ℕ) (u : State) (es : List Entry) (e : Entry)
    → made_active_along id u (es ++ e ∷ []) ≡ made_active_along id u es ++ made_active_by id (after_entries u (es ++ e ∷ [])) e.what
along_more id u [] e = append-nil (made_active_by id (next u e.lane e.what) e.what)
along_more id u (x ∷ es) e =
    ap (λ rest. made_active_by id (next u x.lane x.what) x.what ++ rest) (along_more id (next u x.lane x.what) es e)
    ∙ sym (append_assoc (made_active_by id (next u x.lane x.what) x.what) (made_active_along id (next u x.lane x.what) es)
    (made_active_by id (after_entries (next u x.lane x.what) (es ++ e ∷ [])) e.what))

-- what an ask made active is all of the active plan or nothing
asked_either : (id : ℕ) (t : State) (a : Ask) → (made_active id t a ≡ []) ⊎ (made_active id t a ≡ option_to_list (active_plan_at id t))
asked_either id t (ask.Concur release number digest) = by (release == id)
  where
    by : (b : Bool) → (cond b (option_to_list (active_plan_at id t)) [] ≡ []) ⊎ (cond b (option_to_list (active_plan_at id t)) [] ≡ option_to_list (active_plan_at id t))
    by true = inr refl
    by false = inl refl
asked_either id t _ = inl refl

made_either : (id : ℕ) (t : State) (w : What) → (made_active_by id t w ≡ []) ⊎ (made_active_by id t w ≡ option_to_list (active_plan_at id t))
made_either id t (what.Tick to) = inl refl
made_either id t (what.Asked call reply) = asked_either id t call.ask

asked_new : (s t : State) (id : ℕ) {a : Ask} {o : Option Plan} → Replaces s id a o → o ≡ active_plan_at id t
    → (made_active id t a ≡ option_to_list (active_plan_at id t)) ⊎ (active_plan_at id t ≡ None)
asked_new s t id (replaced_by_concurring found pending passes) is = inl (ap (λ b. cond b (option_to_list (active_plan_at id t)) []) (eq-eqb id id refl))
asked_new s t id replaced_by_purging is = inr (sym is)

made_new : (s t : State) (id : ℕ) (w : What) → IsReplacedBy s id w (active_plan_at id t) → (made_active_by id t w ≡ option_to_list (active_plan_at id t)) ⊎ (active_plan_at id t ≡ None)
made_new s t id (what.Tick to) is = absurd is
made_new s t id (what.Asked call reply) is = asked_new s t id is refl

-- the last of a line that the active plan, if any, ends
abbrev EndsIn : Option Plan → Option Plan → Type 0
EndsIn plan last = IfSome plan (λ p. last ≡ Some p)

ends_new : (o : Option Plan) (last : Option Plan) → EndsIn o (last_or last (option_to_list o))
ends_new None last = tt
ends_new (Some plan) last = refl

ends_same : (before after : Option Plan) (last : Option Plan) (made : List Plan) → after ≡ before → (made ≡ []) ⊎ (made ≡ option_to_list after) → EndsIn before last
    → EndsIn after (last_or last made)
ends_same before after last made same (inl none) ends = subst (λ ps. EndsIn after (last_or last ps)) (sym none) (subst (λ o. EndsIn o last) (sym same) ends)
ends_same before after last made same (inr new) ends = subst (λ ps. EndsIn after (last_or last ps)) (sym new) (ends_new after last)

ends_replaced : (after : Option Plan) (last : Option Plan) (made : List Plan) → (made ≡ option_to_list after) ⊎ (after ≡ None) → EndsIn after (last_or last made)
ends_replaced after last made (inl new) = subst (λ ps. EndsIn after (last_or last ps)) (sym new) (ends_new after last)
ends_replaced after last made (inr none) = subst (λ o. EndsIn o (last_or last made)) (sym none) tt

module _ (opening s t : State) (e : Entry) (here : after_entries opening s.entries ≡ s) (there : after_entries opening (s.entries ++ e ∷ []) ≡ t) where
  abbrev more : List Entry
  more = s.entries ++ e ∷ []

  front_same : (p id : ℕ) → p ≤ length s.entries → active_plan_after opening more p id ≡ active_plan_after opening s.entries p id
  front_same p id within = ap (λ es. active_plan_at id (after_entries opening es)) (take-append-le p s.entries (e ∷ []) within)

  at_front : (id : ℕ) → active_plan_after opening s.entries (length s.entries) id ≡ active_plan_at id s
  at_front id = ap (λ es. active_plan_at id (after_entries opening es)) (take-length s.entries) ∙ ap (active_plan_at id) here

  is_end : (q : ℕ) → length s.entries < q → q ≤ length more → q ≡ length more
  is_end q high within =
      let long : length more ≡ length s.entries + 1 = length-append s.entries (e ∷ []) in
      omega (arith, long, high, within)

  at_end : (q id : ℕ) → length s.entries < q → q ≤ length more → active_plan_after opening more q id ≡ active_plan_at id t
  at_end q id high within =
      ap (λ n. active_plan_at id (after_entries opening (take n more))) (is_end q high within)
      ∙ ap (λ es. active_plan_at id (after_entries opening es)) (take-length more) ∙ ap (active_plan_at id) there

  wider : (p q r id : ℕ) (plan : Option Plan) → q ≤ r → q ≤ length s.entries → IsReplacedBetween opening s.entries p q id plan → IsReplacedBetween opening more p r id plan
  wider p q r id plan less within is =
      let by = is.by in
      let low : is.place < length s.entries = omega (arith, by, within) in
      record {
        place = is.place;
        since = is.since;
        by = omega (arith, by, less);
        one = is.one;
        found = get_front s.entries (e ∷ []) is.place low ∙ is.found;
        replaces = subst (λ es. IsReplacedBy (after_entries opening es) id is.one.what plan) (sym (take-append-le is.place s.entries (e ∷ []) (omega (arith, low)))) is.replaces;
      }

  last_replaces : (p q id : ℕ) (plan : Option Plan) → p ≤ length s.entries → length s.entries < q → IsReplacedBy s id e.what plan → IsReplacedBetween opening more p q id plan
  last_replaces p q id plan low high is = record {
    place = length s.entries;
    since = low;
    by = high;
    one = e;
    found = get_last s.entries e;
    replaces = subst (λ es. IsReplacedBy (after_entries opening es) id e.what plan) (sym (take-append_seam s.entries (e ∷ []))) (subst (λ u. IsReplacedBy u id e.what plan) (sym here) is);
  }

  -- to a place among the earlier entries
  up_to : (p q id : ℕ) → p ≤ q → q ≤ length s.entries → IsKeptOrReplaced opening s.entries p q id → IsKeptOrReplaced opening more p q id
  up_to p q id low within (inl same) = inl (front_same q id within ∙ same ∙ sym (front_same p id (omega (arith, low, within))))
  up_to p q id low within (inr is) =
      inr (subst (IsReplacedBetween opening more p q id) (sym (front_same q id within)) (wider p q q id (active_plan_after opening s.entries q id) (omega arith) within is))

  -- to the end
  to_end : (p q id : ℕ) → p ≤ length s.entries → length s.entries < q → q ≤ length more → IsKeptOrReplaced opening s.entries p (length s.entries) id
      → (active_plan_at id t ≡ active_plan_at id s) ⊎ IsReplacedBy s id e.what (active_plan_at id t) → IsKeptOrReplaced opening more p q id
  to_end p q id low high within earlier (inr is) =
      inr (subst (IsReplacedBetween opening more p q id) (sym (at_end q id high within)) (last_replaces p q id (active_plan_at id t) low high is))
  to_end p q id low high within (inl same) (inl kept) =
      inl (at_end q id high within ∙ kept ∙ sym (at_front id) ∙ same ∙ sym (front_same p id low))
  to_end p q id low high within (inr is) (inl kept) =
      inr (subst (IsReplacedBetween opening more p q id) (at_front id ∙ sym kept ∙ sym (at_end q id high within))
      (wider p (length s.entries) q id (active_plan_after opening s.entries (length s.entries) id) (omega (arith, high)) (omega arith) is))

  changed_more : AreReplacedInTurn opening s.entries → PlansBy s t e.what → (p q id : ℕ) → p ≤ q → q ≤ length more → IsKeptOrReplaced opening more p q id
  changed_more are step p q id low within = by_place (nat_le q (length s.entries)) refl
    where
      last : (b : Bool) → nat_le p (length s.entries) ≡ b → length s.entries < q → IsKeptOrReplaced opening more p q id
      last true f high = let first = leb-true p (length s.entries) f in to_end p q id first high within (are.changed p (length s.entries) id first (omega arith)) (step id)
      last false f high =
          let above = leb-false p (length s.entries) f in
          let long : length more ≡ length s.entries + 1 = length-append s.entries (e ∷ []) in
          let same : q ≡ p = omega (arith, long, low, within, above) in
          inl (ap (λ n. active_plan_after opening more n id) same)

      by_place : (b : Bool) → nat_le q (length s.entries) ≡ b → IsKeptOrReplaced opening more p q id
      by_place true f = let inside = leb-true q (length s.entries) f in up_to p q id low inside (are.changed p q id low inside)
      by_place false f = last (nat_le p (length s.entries)) refl (leb-false q (length s.entries) f)

  -- the line with the plan that the entry made active
  line_more : (id : ℕ) → line_of opening more id ≡ line_of opening s.entries id ++ made_active_by id t e.what
  line_more id =
      ap (λ rest. option_to_list (active_plan_at id opening) ++ rest)
      (along_more id opening s.entries e ∙ ap (λ u. made_active_along id opening s.entries ++ made_active_by id u e.what) there)
      ∙ sym (append_assoc (option_to_list (active_plan_at id opening)) (made_active_along id opening s.entries) (made_active_by id t e.what))

  last_front : (count id : ℕ) → count ≤ length s.entries → IsLastOfLine opening s.entries count id → IsLastOfLine opening more count id
  last_front count id within is =
      subst (λ es. EndsIn (active_plan_at id (after_entries opening es)) (last_or None (line_of opening es id))) (sym (take-append-le count s.entries (e ∷ []) within)) is

  step_ends : (id : ℕ) (last : Option Plan) → EndsIn (active_plan_at id s) last → (active_plan_at id t ≡ active_plan_at id s) ⊎ IsReplacedBy s id e.what (active_plan_at id t)
      → EndsIn (active_plan_at id t) (last_or last (made_active_by id t e.what))
  step_ends id last ends (inl kept) = ends_same (active_plan_at id s) (active_plan_at id t) last (made_active_by id t e.what) kept (made_either id t e.what) ends
  step_ends id last ends (inr is) = ends_replaced (active_plan_at id t) last (made_active_by id t e.what) (made_new s t id e.what is)

  last_end : (count id : ℕ) → length s.entries < count → count ≤ length more → IsLastOfLine opening s.entries (length s.entries) id → PlansBy s t e.what → IsLastOfLine opening more count id
  last_end count id high within is step =
      let before : EndsIn (active_plan_at id s) (last_or None (line_of opening s.entries id)) =
      subst (λ u. EndsIn (active_plan_at id u) (last_or None (line_of opening s.entries id))) here
      (subst (λ es. EndsIn (active_plan_at id (after_entries opening es)) (last_or None (line_of opening es id))) (take-length s.entries) is) in
      let line : last_or (last_or None (line_of opening s.entries id)) (made_active_by id t e.what) ≡ last_or None (line_of opening more id) =
      sym (last_on None (line_of opening s.entries id) (made_active_by id t e.what)) ∙ sym (ap (last_or None) (line_more id)) in
      let after : EndsIn (active_plan_at id t) (last_or None (line_of opening more id)) =
      subst (EndsIn (active_plan_at id t)) line (step_ends id (last_or None (line_of opening s.entries id)) before (step id)) in
      let all : EndsIn (active_plan_at id (after_entries opening more)) (last_or None (line_of opening more id)) =
      subst (λ u. EndsIn (active_plan_at id u) (last_or None (line_of opening more id))) (sym there) after in
      subst (λ n. IsLastOfLine opening more n id) (sym (is_end count high within))
      (subst (λ es. EndsIn (active_plan_at id (after_entries opening es)) (last_or None (line_of opening es id))) (sym (take-length more)) all)

  last_more : AreReplacedInTurn opening s.entries → PlansBy s t e.what → (count id : ℕ) → count ≤ length more → IsLastOfLine opening more count id
  last_more are step count id within = by_place (nat_le count (length s.entries)) refl
    where
      by_place : (b : Bool) → nat_le count (length s.entries) ≡ b → IsLastOfLine opening more count id
      by_place true f = let inside = leb-true count (length s.entries) f in last_front count id inside (are.last count id inside)
      by_place false f = last_end count id (leb-false count (length s.entries) f) within (are.last (length s.entries) id (omega arith)) step

-- an entry more keeps that active plans are replaced in turn
pub still_in_turn : (opening s t : State) (e : Entry) → IsHistory opening s → IsHistory opening t → t.entries ≡ s.entries ++ e ∷ [] → PlansBy s t e.what
    → AreReplacedInTurn opening s.entries → AreReplacedInTurn opening t.entries
still_in_turn opening s t e before after grown step are =
    let here : after_entries opening s.entries ≡ s = legal_after opening s.entries s before.legal in
    let there : after_entries opening (s.entries ++ e ∷ []) ≡ t = subst (λ es. after_entries opening es ≡ t) grown (legal_after opening t.entries t after.legal) in
    subst (AreReplacedInTurn opening) (sym grown)
    (record { changed = changed_more opening s t e here there are step; last = last_more opening s t e here there are step })

first_ends : (o : Option Plan) → EndsIn o (last_or None (option_to_list o ++ []))
first_ends None = tt
first_ends (Some plan) = refl

-- nothing has happened yet
pub none_replaced : (opening : State) (entries : List Entry) → entries ≡ [] → AreReplacedInTurn opening entries
none_replaced opening entries empty = record {
  changed = λ p q id low within.
      let none : length entries ≡ 0 = ap length empty in
      let same : q ≡ p = omega (arith, none, low, within) in
      inl (ap (λ n. active_plan_after opening entries n id) same);
  last = λ count id within.
      let none : take count entries ≡ [] = take_none count entries empty in
      subst (λ es. EndsIn (active_plan_at id (after_entries opening es)) (last_or None (line_of opening es id))) (sym none) (first_ends (active_plan_at id opening));
}
  where
    take_none : (count : ℕ) (es : List Entry) → es ≡ [] → take count es ≡ []
    take_none zero es is = ap (take zero) is
    take_none (suc count) es is = ap (take (suc count)) is

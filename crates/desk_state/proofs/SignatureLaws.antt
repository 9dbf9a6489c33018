-- Every step keeps that signatures are those of the holder and of the plan's captain, and that texts determine releases.
use Rattle.std.proofs.Common.{◌≡◌, ◌⊎◌, inl, inr, ℕ, ◌+◌, ◌<◌, ◌≤◌, ◌==◌, eq-eqb, Bool, List, [], ◌∷◌, ◌++◌, Option, None, Some, IfSome, refl, ap, sym, ◌∙◌, subst, arith}
use Rattle.std.specs.List.{AllByRecursion}
use Rattle.std.proofs.lemmas.Bool.{ne_eqb}
use Rattle.plan.specs.declared.release.Release.{Release}
use Rattle.plan.specs.declared.release.Revision.{Revision}
use Rattle.plan.specs.declared.release.Signature.{Signature}
use Rattle.plan.specs.declared.flights.Plan.{Plan}
use Rattle.plan.specs.declared.release.Phase.{Phase}
use Rattle.asks.specs.declared.call.Ask.{Ask}
use Rattle.asks.specs.declared.reply.Done.{Done as DoneType}
use Rattle.asks.specs.Forms.{IsRevision, IsFormed}
use Rattle.release_text.specs.Revisions.{revision_text}
use Rattle.release_text.specs.Legible.{Tells}
use Rattle.release_text.proofs.TextLaws.{tells}
use Rattle.desk_state.specs.declared.effect.Effect.{Effect}
use Rattle.desk_state.specs.Allowed.{IsEffectOf, admits, defers, clears, drafts, prepares, signs, concurs, amends, cancels, departs, stops, completes, acknowledges, purges, sweeps, OfHeld, BothAre, IsSignedBy, GainsDispatcher, GainsCaptain, GainsWeather, IsFresh, IsDrafted, IsNextRevision, IsPreparing, IsSigning, IsConcurring, IsAmending, IsCancelling, IsDeparting, IsArriving, IsStopping, IsCompleting, IsSameRelease}
use Rattle.desk_state.specs.Events.{effected, releases_after, put_release, without_release}
use Rattle.desk_state.specs.Signatures.{IsKnownByText, AreKnownByText, Place, of_dispatcher, of_captain, WasSigned, IsSignedOnlyBy, HasOwnSignatures, AreOwnSignatures}
use Rattle.desk_state.specs.Sound.{Rise}
use Rattle.desk_state.specs.State.{State, release_at}
use Rattle.desk_state.proofs.Each.{found_each, put_each, without_each}
use Rattle.desk_state.proofs.EffectForms.{of_held}
use Rattle.desk_state.proofs.Found.{if_found}
use Rattle.desk_state.proofs.LegibleLaws.{legible}
use Rattle.desk_io.proofs.Each.{each_push, each_weaker}

-- ---- texts

-- a revision whose fields have their forms
known : (v : Revision) → IsRevision v → IsKnownByText v
unfolding Tells
known v is other other_is text =
    let own = legible v is in
    let its = legible other other_is in
    let told : Tells (revision_text v) v.plan v.number v.attached = tells v.plan v.number v.attached (revision_text v) own.1 refl in
    told own.0 other.plan other.number other.attached its.0 its.1 (sym text)

known_if : (o : Option Revision) → IfSome o IsRevision → IfSome o IsKnownByText
known_if None is = tt
known_if (Some v) is = known v is

pub all_known : (rs : List Release) → AllByRecursion IsFormed rs → AllByRecursion AreKnownByText rs
all_known rs formed = each_weaker IsFormed AreKnownByText (λ r is. record { pending = known_if r.pending is.pending; active = known_if r.active is.active }) rs formed

-- ---- who signed

no_signature : (opening : State) (id : ℕ) (place : Place) (person : List ℕ) (v : Revision) → place v ≡ None → IsSignedOnlyBy opening id place person v
no_signature opening id place person v none = subst (λ (o : Option Signature). IfSome o (λ signature. (signature.actor ≡ person) ⊎ WasSigned opening id place v)) (sym none) tt

-- the signature of another revision with the same number and plan
still_was : (opening : State) (id : ℕ) (place : Place) (v w : Revision) → w.number ≡ v.number → w.plan ≡ v.plan → place w ≡ place v → WasSigned opening id place v → WasSigned opening id place w
still_was opening id place v w number plan is was = record {
  release = was.release;
  found = was.found;
  revision = was.revision;
  one = was.one;
  number = was.number ∙ sym number;
  plan = was.plan ∙ sym plan;
  same = was.same ∙ sym is;
}

weaker : (o : Option Signature) (person : List ℕ) (A B : Type 0) → (A → B) → IfSome o (λ signature. (signature.actor ≡ person) ⊎ A) → IfSome o (λ signature. (signature.actor ≡ person) ⊎ B)
weaker None person A B f is = tt
weaker (Some signature) person A B f (inl own) = inl own
weaker (Some signature) person A B f (inr a) = inr (f a)

still_signed : (opening : State) (id : ℕ) (place : Place) (person : List ℕ) (v w : Revision) → w.number ≡ v.number → w.plan ≡ v.plan → place w ≡ place v
    → IsSignedOnlyBy opening id place person v → IsSignedOnlyBy opening id place person w
still_signed opening id place person v w number plan is signed =
    subst (λ (o : Option Signature). IfSome o (λ signature. (signature.actor ≡ person) ⊎ WasSigned opening id place w)) (sym is)
    (weaker (place v) person (WasSigned opening id place v) (WasSigned opening id place w) (still_was opening id place v w number plan is) signed)

signs_own : (actor person : List ℕ) (moment : ℕ) (digest : List ℕ) (o : Option Signature) (A : Type 0) → actor ≡ person → IsSignedBy actor moment digest o → IfSome o (λ signature. (signature.actor ≡ person) ⊎ A)
signs_own actor person moment digest None A own is = absurd is
signs_own actor person moment digest (Some signature) A own is = inl (is.0 ∙ own)

none_if : (P : Revision → Type 0) (o : Option Revision) → o ≡ None → IfSome o P
none_if P o e = subst (λ (p : Option Revision). IfSome p P) (sym e) tt

-- the signatures of a revision in another release with the same id and holder
module _ (opening : State) where
  abbrev Has : ℕ → List ℕ → Revision → Type 0
  Has id holder v = HasOwnSignatures opening id holder v

  in_same : (q r : Release) (o p : Option Revision) → IsSameRelease q r → p ≡ o → IfSome o (Has q.id q.holder) → IfSome p (Has r.id r.holder)
  in_same q r o p same e has =
      subst (λ (x : Option Revision). IfSome x (Has r.id r.holder)) (sym e)
      (subst (λ (id : ℕ). IfSome o (Has id r.holder)) (sym same.id) (subst (λ (holder : List ℕ). IfSome o (Has q.id holder)) (sym same.holder) has))

  both_has : (R : Revision → Revision → Type 0) (o p : Option Revision) (P Q : Revision → Type 0) → ((v w : Revision) → R v w → P v → Q w) → BothAre R o p → IfSome o P → IfSome p Q
  both_has R None p P Q gives both is = absurd both
  both_has R (Some v) None P Q gives both is = absurd both
  both_has R (Some v) (Some w) P Q gives both is = gives v w both is

  unsigned : (id : ℕ) (holder : List ℕ) (v : Revision) → v.dispatcher ≡ None → v.captain ≡ None → Has id holder v
  unsigned id holder v one two = record { dispatcher = no_signature opening id of_dispatcher holder v one; captain = no_signature opening id of_captain v.plan.captain v two }

  prepared : (s : State) (actor : List ℕ) (q r : Release) → AreOwnSignatures opening q → IsPreparing s actor q r → AreOwnSignatures opening r
  prepared s actor q r has is = record {
    pending = both_has (GainsWeather s q) q.pending r.pending (Has q.id q.holder) (Has r.id r.holder) (λ v w gains old. unsigned r.id r.holder w gains.dispatcher gains.captain) is.pending has.pending;
    active = in_same q r q.active r.active is.same is.active has.active;
  }

  signed : (s : State) (actor : List ℕ) (number : ℕ) (digest : List ℕ) (q r : Release) → AreOwnSignatures opening q → IsSigning s actor number digest q r → AreOwnSignatures opening r
  signed s actor number digest q r has is = record {
    pending = in_id (both_has (GainsDispatcher s actor number digest q) q.pending r.pending (Has q.id q.holder) (Has q.id r.holder) (λ v w gains old. record {
      dispatcher = signs_own actor r.holder s.moment digest w.dispatcher (WasSigned opening q.id of_dispatcher w) (sym is.own ∙ sym is.same.holder) gains.dispatcher;
      captain = subst (λ (person : List ℕ). IsSignedOnlyBy opening q.id of_captain person w) (sym (ap (λ p. p.captain) gains.same.plan))
          (still_signed opening q.id of_captain v.plan.captain v w gains.same.number gains.same.plan gains.captain old.captain);
    }) is.pending has.pending);
    active = in_same q r q.active r.active is.same is.active has.active;
  }
    where
      in_id : IfSome r.pending (Has q.id r.holder) → IfSome r.pending (Has r.id r.holder)
      in_id = subst (λ (id : ℕ). IfSome r.pending (Has id r.holder)) (sym is.same.id)

  concurred : (s : State) (actor : List ℕ) (number : ℕ) (digest : List ℕ) (q r : Release) → AreOwnSignatures opening q → IsConcurring s actor number digest q r → AreOwnSignatures opening r
  concurred s actor number digest q r has is = record {
    pending = none_if (Has r.id r.holder) r.pending is.pending;
    active = in_id (both_has (GainsCaptain s actor number digest q) q.pending r.active (Has q.id q.holder) (Has q.id q.holder) (λ v w gains old. record {
      dispatcher = still_signed opening q.id of_dispatcher q.holder v w gains.same.number gains.same.plan gains.dispatcher old.dispatcher;
      captain = signs_own actor w.plan.captain s.moment digest w.captain (WasSigned opening q.id of_captain w) (sym gains.own ∙ sym (ap (λ p. p.captain) gains.same.plan)) gains.captain;
    }) is.active has.pending);
  }
    where
      in_id : IfSome r.active (Has q.id q.holder) → IfSome r.active (Has r.id r.holder)
      in_id each = in_same q r r.active r.active is.same refl each

  fresh : (id : ℕ) (holder : List ℕ) (number : ℕ) (plan : Plan) (o : Option Revision) → IsFresh number plan o → IfSome o (Has id holder)
  fresh id holder number plan None is = absurd is
  fresh id holder number plan (Some v) is = unsigned id holder v is.4 is.5

  next_fresh : (id : ℕ) (holder : List ℕ) (s : State) (plan : Plan) (phase : Phase) (pending active after : Option Revision) (number : ℕ) → IsNextRevision s plan phase pending active after number → IfSome after (Has id holder)
  next_fresh id holder s plan phase (Some v) active after number is = fresh id holder number plan after is.2
  next_fresh id holder s plan phase None (Some w) after number is = fresh id holder number plan after is.2
  next_fresh id holder s plan phase None None after number is = absurd is

  amended : (s : State) (actor : List ℕ) (plan : Plan) (number : ℕ) (q r : Release) → AreOwnSignatures opening q → IsAmending s actor plan number q r → AreOwnSignatures opening r
  amended s actor plan number q r has is = record {
    pending = next_fresh r.id r.holder s plan q.phase q.pending q.active r.pending number is.pending;
    active = in_same q r q.active r.active is.same is.active has.active;
  }

  -- the active revision stays, and none is pending
  moved : (q r : Release) → IsSameRelease q r → r.active ≡ q.active → r.pending ≡ None → AreOwnSignatures opening q → AreOwnSignatures opening r
  moved q r same active none has = record { pending = none_if (Has r.id r.holder) r.pending none; active = in_same q r q.active r.active same active has.active }

  drafted : (s : State) (actor : List ℕ) (plan : Plan) (r : Release) → IsDrafted s actor plan r → AreOwnSignatures opening r
  drafted s actor plan r is = record { pending = fresh r.id r.holder 1 plan r.pending is.pending; active = none_if (Has r.id r.holder) r.active is.active }

  abbrev All : List Release → Type 0
  All rs = AllByRecursion (AreOwnSignatures opening) rs

  puts : (R : Release → Release → Type 0) (id : ℕ) (rs : List Release) (r : Release) → ((q : Release) → AreOwnSignatures opening q → R q r → AreOwnSignatures opening r) → OfHeld R (release_at id rs) r → All rs → All (put_release r rs)
  puts R id rs r gives is all =
      put_each (AreOwnSignatures opening) r rs all
      (of_held R (AreOwnSignatures opening) (AreOwnSignatures opening r) (release_at id rs) r (found_each (AreOwnSignatures opening) (λ q. q.id == id) rs all) gives is)

  -- what an ask leaves of the releases
  pub asked_signed : (s : State) (actor : List ℕ) {a : Ask} {does : Effect} {made : DoneType} → IsEffectOf s actor a does made → All s.releases → All (releases_after does.on_releases s.releases)
  asked_signed s actor (admits is) all = all
  asked_signed s actor (defers is) all = all
  asked_signed s actor (clears is) all = all
  asked_signed s actor (drafts {plan = plan} {r = r} is) all = each_push (AreOwnSignatures opening) s.releases r all (drafted s actor plan r is)
  asked_signed s actor (prepares {id = id} {r = r} is pending) all = puts (IsPreparing s actor) id s.releases r (λ q has. prepared s actor q r has) is all
  asked_signed s actor (signs {id = id} {number = number} {digest = digest} {r = r} is) all = puts (IsSigning s actor number digest) id s.releases r (λ q has. signed s actor number digest q r has) is all
  asked_signed s actor (concurs {id = id} {number = number} {digest = digest} {r = r} is) all = puts (IsConcurring s actor number digest) id s.releases r (λ q has. concurred s actor number digest q r has) is all
  asked_signed s actor (amends {id = id} {number = number} {plan = plan} {r = r} is) all = puts (IsAmending s actor plan number) id s.releases r (λ q has. amended s actor plan number q r has) is all
  asked_signed s actor (cancels {id = id} {r = r} is) all = puts (IsCancelling s actor) id s.releases r (λ q has of. moved q r of.same of.active of.pending has) is all
  asked_signed s actor (departs {id = id} {leg = leg} {r = r} is) all = puts (IsDeparting s actor leg) id s.releases r (λ q has of. moved q r of.same of.active of.pending has) is all
  asked_signed s actor (stops {id = id} {leg = leg} {r = r} is) all = puts (IsStopping s actor leg) id s.releases r (λ q has of. moved q r of.arrives.same of.arrives.active of.arrives.pending has) is all
  asked_signed s actor (completes {id = id} {leg = leg} {r = r} is) all = puts (IsCompleting s actor leg) id s.releases r (λ q has of. moved q r of.arrives.same of.arrives.active of.arrives.pending has) is all
  asked_signed s actor (acknowledges found is) all = all
  asked_signed s actor (sweeps is) all = all
  asked_signed s actor (purges {q = q} found is) all = without_each (AreOwnSignatures opening) q.id s.releases all

-- ---- when the desk opens

-- each release is found under its id
later_found : (x : Release) (xs rest : List Release) (low next : ℕ) → x.id < low → Rise low rest next → AllByRecursion (λ r. release_at r.id xs ≡ Some r) rest → AllByRecursion (λ r. release_at r.id (x ∷ xs) ≡ Some r) rest
later_found x xs [] low next below rise all = tt
later_found x xs (r ∷ rest) low next below rise all =
    let above = rise.0 in
    (rw (ne_eqb x.id r.id (λ e. absurd (omega (arith, e, below, above)))) all.0, later_found x xs rest (r.id + 1) next (omega (arith, below, above)) rise.1 all.1)

each_is_found : (low : ℕ) (rs : List Release) (next : ℕ) → Rise low rs next → AllByRecursion (λ r. release_at r.id rs ≡ Some r) rs
each_is_found low [] next rise = tt
each_is_found low (r ∷ rs) next rise =
    (rw (eq-eqb r.id r.id refl) refl, later_found r rs rs (r.id + 1) next (omega arith) rise.1 (each_is_found (r.id + 1) rs next rise.1))

-- each signature was there
was_there : (s : State) (r : Release) (v : Revision) (holder : List ℕ) → release_at r.id s.releases ≡ Some r → (r.pending ≡ Some v) ⊎ (r.active ≡ Some v) → HasOwnSignatures s r.id holder v
was_there s r v holder found one =
    let was : (place : Place) → WasSigned s r.id place v = λ place. record { release = r; found = found; revision = v; one = one; number = refl; plan = refl; same = refl } in
    record { dispatcher = if_found _ v.dispatcher (λ signature e. inr (was of_dispatcher)); captain = if_found _ v.captain (λ signature e. inr (was of_captain)) }

-- the signatures with which a desk opens
pub opened_signed : (s : State) → Rise 0 s.releases s.counters.next_release → AllByRecursion (AreOwnSignatures s) s.releases
opened_signed s rise =
    each_weaker (λ r. release_at r.id s.releases ≡ Some r) (AreOwnSignatures s) (λ r found. record {
      pending = if_found _ r.pending (λ v e. was_there s r v r.holder found (inl e));
      active = if_found _ r.active (λ v e. was_there s r v r.holder found (inr e));
    }) s.releases (each_is_found 0 s.releases s.counters.next_release rise)

-- What an accepted ask brings has its forms.
use Rattle.std.proofs.Common.{◌≡◌, ℕ, ◌+◌, ◌≤◌, true, false, not, eqb, List, [], ◌∷◌, length, Option, None, Some, IfSome, sym, subst, arith}
use Rattle.std.specs.List.{AllByRecursion}
use Rattle.asks.specs.declared.call.Ask.{Ask}
use Rattle.asks.specs.declared.kept.Floor.{Floor}
use Rattle.asks.specs.declared.reply.Done.{Done as DoneType}
use Rattle.asks.specs.declared.reply.Done.TheVariants as done
use Rattle.facts.specs.Swept.{stays, leaving}
use Rattle.desk_state.specs.Formed.{ReportHasForms, DeferralHasForms, AreFormed, ReplyHasForms}
use Rattle.desk_state.proofs.DigestForms.{revision_digest_formed}
use Rattle.desk_state.proofs.FloorForms.{raised_formed, raised_rise}
use Rattle.desk_state.proofs.HoursLaws.{captain_small, hours_formed, no_hours, same_hours}
use Rattle.desk_state.proofs.NameForms.{deferred_formed}
use Rattle.desk_state.proofs.ReportForms.{MayAttach, may_attach, attached_formed, received_formed}
use Rattle.desk_state.specs.Allowed.{IsEffectOf, admits, defers, clears, drafts, prepares, signs, concurs, amends, cancels, departs, stops, completes, acknowledges, sweeps, purges, IsSignedBy, GainsDispatcher, GainsCaptain, GainsWeather, BothAre, IsPreparing, IsSigning, IsReleased, IsConcurring, IsCancelling, IsFresh, IsDrafted, IsNextRevision, IsAmending, IsDeparting, IsStopping, IsCompleting, IsSweeping, OfHeld}
use Rattle.desk_state.specs.Decide.{attached_reports, reports_before}
use Rattle.desk_state.specs.Effects as effect
use Rattle.desk_state.specs.Events.{is_since}
use Rattle.desk_state.specs.Hours.{captain_hours}
use Rattle.desk_state.specs.Requests.{kept_before}
use Rattle.desk_state.specs.Sound.{Sound, IsWithin, MayStand, InBounds, Rise}
use Rattle.desk_state.specs.State.{State, release_at}
use Rattle.desk_state.specs.declared.effect.Effect.{Effect}
use Rattle.desk_state.specs.declared.effect.OnDeferrals.{OnDeferrals}
use Rattle.desk_state.specs.declared.effect.OnDeferrals.TheVariants as on_deferrals
use Rattle.release_index.specs.declared.change.OnReleases.{OnReleases}
use Rattle.release_index.specs.declared.change.OnReleases.TheVariants as on_releases
use Rattle.desk_state.specs.declared.effect.Sweep.{Sweep}
use Rattle.desk_state.proofs.Each.{found_each}
use Rattle.desk_state.proofs.Judging.{rise_bound}
use Rattle.desk_state.proofs.Parts.{filter_each, filter_shorter}
use Rattle.ops_tables.specs.Forms.{is_person}
use Rattle.ops_tables.specs.Named.{AreNamed}
use Rattle.plan.specs.Texts.{HasMoment}
use Rattle.desk_time.specs.Limits.{IsMoment}
use Rattle.plan.specs.declared.flights.Plan.{Plan}
use Rattle.plan.specs.declared.release.Phase.{Phase}
use Rattle.plan.specs.declared.release.Phase.TheVariants.{Drafted, Ready, Flying, Stopped, Completed, Cancelled}
use Rattle.plan.specs.declared.release.Release.{Release}
use Rattle.plan.specs.declared.release.Revision.{Revision}
use Rattle.plan.specs.declared.release.Signature.{Signature}
use Rattle.asks.specs.Forms.{IsId, HasForms, AskHasForms, DoneHasForms, IsFloor, FloorsRise, IsAttached, IsSignature, IsRevision, IsFormed}
use Rattle.asks.specs.Digests.{IsDigest}
use Rattle.release_text.specs.Revisions.{revision_digest}

-- ---- what an effect brings

abbrev pub OpensFormed : OnDeferrals → Type 0
OpensFormed on_deferrals.Nothing = Unit {0}
OpensFormed (on_deferrals.Open d) = DeferralHasForms d
OpensFormed (on_deferrals.Clear id) = Unit {0}

abbrev pub PutsFormed : OnReleases → Type 0
PutsFormed on_releases.Nothing = Unit {0}
PutsFormed (on_releases.File r) = IsFormed r
PutsFormed (on_releases.Put r) = IsFormed r
PutsFormed (on_releases.Remove id) = Unit {0}

abbrev pub HasFloors : Sweep → Type 0
HasFloors w = AllByRecursion IsFloor w.floors × FloorsRise w.floors

-- the report, the deferral, the release and the floors of an effect have their forms
pub record BringsForms (e : Effect) : Type 0 where
  pub admitted : IfSome e.report ReportHasForms
  pub opened : OpensFormed e.on_deferrals
  pub filed : PutsFormed e.on_releases
  pub floors : IfSome e.sweep HasFloors

-- ---- a release that is held

-- what is known of the state
pub record Stands (s : State) : Type 0 where
  pub formed : AreFormed s
  pub sound : Sound s
  pub bounds : InBounds s

record IsHeld (s : State) (q : Release) : Type 0 where
  formed : IsFormed q
  low : IsId q.id
  within : IsWithin s.counters.events q

all_held : (s : State) (low : ℕ) (rs : List Release) (next : ℕ) → next ≤ 1_000_000_000_000_000 → Rise low rs next → AllByRecursion (MayStand s.counters.events) rs → AllByRecursion IsFormed rs
    → AllByRecursion (IsHeld s) rs
all_held s low [] next top rise valid formed = tt
all_held s low (r ∷ rs) next top rise valid formed =
    let below = rise_bound (r.id + 1) rs next rise.1 in
    (record { formed = formed.0; low = omega (arith, below, top); within = valid.0.within }, all_held s (r.id + 1) rs next top rise.1 valid.1 formed.1)

held_at : (s : State) (id : ℕ) → Stands s → IfSome (release_at id s.releases) (IsHeld s)
held_at s id stands =
    let next = stands.bounds.counters.release in
    let top = stands.bounds.counters.events in
    found_each (IsHeld s) (λ r. eqb r.id id) s.releases
    (all_held s 0 s.releases s.counters.next_release (omega (arith, next, top)) stands.sound.ids stands.sound.valid stands.formed.releases)

-- what follows for the release that is held
pub of_held : (R : Release → Release → Type 0) (P : Release → Type 0) (Q : Type 0) (o : Option Release) (r : Release) → IfSome o P → ((q : Release) → P q → R q r → Q) → OfHeld R o r → Q
of_held R P Q None r has gives is = absurd is
of_held R P Q (Some q) r has gives is = gives q has is

-- ---- revisions

none_revision : (o : Option Revision) → o ≡ None → IfSome o IsRevision
none_revision o e = subst (λ (p : Option Revision). IfSome p IsRevision) (sym e) tt

same_revision : (o p : Option Revision) → o ≡ p → IfSome p IsRevision → IfSome o IsRevision
same_revision o p e is = subst (λ (q : Option Revision). IfSome q IsRevision) (sym e) is

no_signature : (o : Option Signature) → o ≡ None → IfSome o IsSignature
no_signature o e = subst (λ (p : Option Signature). IfSome p IsSignature) (sym e) tt

same_signature : (o p : Option Signature) → o ≡ p → IfSome p IsSignature → IfSome o IsSignature
same_signature o p e is = subst (λ (q : Option Signature). IfSome q IsSignature) (sym e) is

signed_formed : (actor : List ℕ) (moment : ℕ) (digest : List ℕ) (o : Option Signature) → is_person actor ≡ true → IsMoment moment → IsDigest digest → IsSignedBy actor moment digest o
    → IfSome o IsSignature
signed_formed actor moment digest None person shown is_digest is = absurd is
signed_formed actor moment digest (Some signature) person shown is_digest is = record {
  actor = subst (λ (name : List ℕ). is_person name ≡ true) (sym is.0) person;
  at = subst IsMoment (sym is.1) shown;
  digest = subst IsDigest (sym is.2) is_digest;
}

-- what holds of a revision by what it was
both_formed : (R : Revision → Revision → Type 0) (o p : Option Revision) → ((v w : Revision) → R v w → IsRevision v → IsRevision w) → BothAre R o p → IfSome o IsRevision → IfSome p IsRevision
both_formed R None p keeps both is = absurd both
both_formed R (Some v) None keeps both is = absurd both
both_formed R (Some v) (Some w) keeps both is = keeps v w both is

weather_formed : (s : State) (q : Release) (v w : Revision) → AllByRecursion MayAttach s.reports → GainsWeather s q v w → IsRevision v → IsRevision w
weather_formed s q v w all gains was = record {
  number = subst IsId (sym gains.number) was.number;
  plan = subst HasForms (sym gains.plan) was.plan;
  attached = subst (AllByRecursion IsAttached) (sym gains.attached) (attached_formed s.reports v.plan q.phase all);
  dispatcher = no_signature w.dispatcher gains.dispatcher;
  captain = no_signature w.captain gains.captain;
  hours = no_hours w.hours gains.hours;
}

dispatcher_formed : (s : State) (actor : List ℕ) (number : ℕ) (digest : List ℕ) (q : Release) (v w : Revision) → is_person actor ≡ true → IsMoment s.moment → IsDigest digest
    → GainsDispatcher s actor number digest q v w → IsRevision v → IsRevision w
dispatcher_formed s actor number digest q v w person shown is_digest gains was = record {
  number = subst IsId (sym gains.same.number) was.number;
  plan = subst HasForms (sym gains.same.plan) was.plan;
  attached = subst (AllByRecursion IsAttached) (sym gains.same.attached) was.attached;
  dispatcher = signed_formed actor s.moment digest w.dispatcher person shown is_digest gains.dispatcher;
  captain = same_signature w.captain v.captain gains.captain was.captain;
  hours = same_hours w.hours v.hours gains.hours was.hours;
}

captain_formed : (s : State) (actor : List ℕ) (number : ℕ) (digest : List ℕ) (q : Release) (v w : Revision) → is_person actor ≡ true → IsMoment s.moment → IsDigest digest → AreNamed s.tables
    → GainsCaptain s actor number digest q v w → IsRevision v → IsRevision w
captain_formed s actor number digest q v w person shown is_digest named gains was = record {
  number = subst IsId (sym gains.same.number) was.number;
  plan = subst HasForms (sym gains.same.plan) was.plan;
  attached = subst (AllByRecursion IsAttached) (sym gains.same.attached) was.attached;
  dispatcher = same_signature w.dispatcher v.dispatcher gains.dispatcher was.dispatcher;
  captain = signed_formed actor s.moment digest w.captain person shown is_digest gains.captain;
  hours = hours_formed w.hours (captain_hours s.tables v.plan) gains.hours (captain_small s.tables v.plan named);
}

fresh_formed : (number : ℕ) (plan : Plan) (o : Option Revision) → IsId number → HasForms plan → IsFresh number plan o → IfSome o IsRevision
fresh_formed number plan None low has is = absurd is
fresh_formed number plan (Some v) low has is = record {
  number = subst IsId (sym is.0) low;
  plan = subst HasForms (sym is.1) has;
  attached = subst (AllByRecursion IsAttached) (sym is.3) tt;
  dispatcher = no_signature v.dispatcher is.4;
  captain = no_signature v.captain is.5;
  hours = no_hours v.hours is.6;
}

-- the number of a revision that takes the place of another
next_low : (s : State) (plan : Plan) (phase : Phase) (pending active after : Option Revision) (number : ℕ) → s.counters.events ≤ 999_999_999_999_999
    → IfSome pending (λ v. v.number ≤ s.counters.events) → IfSome active (λ v. v.number ≤ s.counters.events) → IsNextRevision s plan phase pending active after number
    → IsId number × IsFresh number plan after
next_low s plan phase (Some v) active after number top one two is = (let same = is.1 in omega (arith, same, one, top), is.2)
next_low s plan phase None (Some w) after number top one two is = (let same = is.1 in omega (arith, same, two, top), is.2)
next_low s plan phase None None after number top one two is = absurd is

-- ---- releases

same_person : (a b : List ℕ) → a ≡ b → is_person b ≡ true → is_person a ≡ true
same_person a b e is = subst (λ (name : List ℕ). is_person name ≡ true) (sym e) is

same_moment : (p q : Phase) → p ≡ q → HasMoment q → HasMoment p
same_moment p q e is = subst HasMoment (sym e) is

released_moment : (p q : Phase) → IsReleased p q → HasMoment p → HasMoment q
released_moment Drafted q is has = same_moment q Ready is tt
released_moment Ready q is has = same_moment q Ready is tt
released_moment (Flying leg) q is has = same_moment q (Flying leg) is tt
released_moment (Stopped next since again) q is has = same_moment q (Stopped next since true) is has
released_moment (Completed at) q is has = same_moment q (Completed at) is has
released_moment (Cancelled at) q is has = same_moment q (Cancelled at) is has

prepared_formed : (s : State) (actor : List ℕ) (q r : Release) → Stands s → IsHeld s q → IsPreparing s actor q r → IsFormed r
prepared_formed s actor q r stands held is = record {
  holder = same_person r.holder q.holder is.same.holder held.formed.holder;
  moment = same_moment r.phase q.phase is.phase held.formed.moment;
  pending = both_formed (GainsWeather s q) q.pending r.pending
      (λ v w gains was. weather_formed s q v w (may_attach s stands.bounds stands.formed.reports) gains was) is.pending held.formed.pending;
  active = same_revision r.active q.active is.active held.formed.active;
}

signing_formed : (s : State) (actor : List ℕ) (number : ℕ) (digest : List ℕ) (q r : Release) → Stands s → is_person actor ≡ true → IsDigest digest → IsHeld s q
    → IsSigning s actor number digest q r → IsFormed r
signing_formed s actor number digest q r stands person is_digest held is = record {
  holder = same_person r.holder q.holder is.same.holder held.formed.holder;
  moment = same_moment r.phase q.phase is.phase held.formed.moment;
  pending = both_formed (GainsDispatcher s actor number digest q) q.pending r.pending
      (λ v w gains was. dispatcher_formed s actor number digest q v w person stands.bounds.moment is_digest gains was) is.pending held.formed.pending;
  active = same_revision r.active q.active is.active held.formed.active;
}

concurring_formed : (s : State) (actor : List ℕ) (number : ℕ) (digest : List ℕ) (q r : Release) → Stands s → is_person actor ≡ true → IsDigest digest → IsHeld s q
    → IsConcurring s actor number digest q r → IsFormed r
concurring_formed s actor number digest q r stands person is_digest held is = record {
  holder = same_person r.holder q.holder is.same.holder held.formed.holder;
  moment = released_moment q.phase r.phase is.phase held.formed.moment;
  pending = none_revision r.pending is.pending;
  active = both_formed (GainsCaptain s actor number digest q) q.pending r.active
      (λ v w gains was. captain_formed s actor number digest q v w person stands.bounds.moment is_digest stands.formed.names gains was) is.active held.formed.pending;
}

drafted_formed : (s : State) (actor : List ℕ) (plan : Plan) (r : Release) → is_person actor ≡ true → HasForms plan → IsDrafted s actor plan r → IsFormed r
drafted_formed s actor plan r person has is = record {
  holder = same_person r.holder actor is.holder person;
  moment = same_moment r.phase Drafted is.phase tt;
  pending = fresh_formed 1 plan r.pending (omega arith) has is.pending;
  active = none_revision r.active is.active;
}

amended_low : (s : State) (actor : List ℕ) (plan : Plan) (number : ℕ) (q r : Release) → Stands s → IsHeld s q → IsAmending s actor plan number q r → IsId number × IsFresh number plan r.pending
amended_low s actor plan number q r stands held is =
    next_low s plan q.phase q.pending q.active r.pending number stands.bounds.counters.events held.within.0 held.within.1 is.pending

amended_formed : (s : State) (actor : List ℕ) (plan : Plan) (number : ℕ) (q r : Release) → Stands s → HasForms plan → IsHeld s q → IsAmending s actor plan number q r → IsFormed r
amended_formed s actor plan number q r stands has held is =
    let low = amended_low s actor plan number q r stands held is in
    record {
      holder = same_person r.holder q.holder is.same.holder held.formed.holder;
      moment = same_moment r.phase q.phase is.phase held.formed.moment;
      pending = fresh_formed number plan r.pending low.0 has low.1;
      active = same_revision r.active q.active is.active held.formed.active;
    }

-- a release that goes on, stops or ends, and of which nothing is pending then
moved_formed : (s : State) (q r : Release) (phase : Phase) → IsHeld s q → HasMoment phase → r.holder ≡ q.holder → r.phase ≡ phase → r.active ≡ q.active → r.pending ≡ None → IsFormed r
moved_formed s q r phase held has holder at active pending = record {
  holder = same_person r.holder q.holder holder held.formed.holder;
  moment = same_moment r.phase phase at has;
  pending = none_revision r.pending pending;
  active = same_revision r.active q.active active held.formed.active;
}

-- ---- each ask

-- what an accepted ask brings and is said to have done
abbrev pub IsDoneFormed : Effect → DoneType → Type 0
IsDoneFormed e made = BringsForms e × DoneHasForms made

put_brings : (r : Release) → IsFormed r → BringsForms (effect.put r)
put_brings r is = record { admitted = tt; opened = tt; filed = is; floors = tt }

afresh_brings : (r : Release) → IsFormed r → BringsForms (effect.put_afresh r)
afresh_brings r is = record { admitted = tt; opened = tt; filed = is; floors = tt }

id_kept : (r q : Release) → r.id ≡ q.id → IsId q.id → IsId r.id
id_kept r q e low = subst IsId (sym e) low

-- a number that comes next
next_id : (n next events : ℕ) → n ≡ next → next ≤ events + 1 → events ≤ 999_999_999_999_999 → IsId n
next_id n next events e within top = omega (arith, e, within, top)

preparing_done : (s : State) (actor : List ℕ) (id : ℕ) (r : Release) (w : Revision) → Stands s → OfHeld (IsPreparing s actor) (release_at id s.releases) r → r.pending ≡ Some w
    → IsDoneFormed (effect.put r) (done.Prepared r.id w.number (revision_digest w))
preparing_done s actor id r w stands is pending =
    of_held (IsPreparing s actor) (IsHeld s) (IsDoneFormed (effect.put r) (done.Prepared r.id w.number (revision_digest w))) (release_at id s.releases) r (held_at s id stands)
    (λ q held has. let formed = prepared_formed s actor q r stands held has in
    let revision : IsRevision w = subst (λ (o : Option Revision). IfSome o IsRevision) pending formed.pending in
    (put_brings r formed, (id_kept r q has.same.id held.low, revision.number, revision_digest_formed w))) is

signing_done : (s : State) (actor : List ℕ) (id number : ℕ) (digest : List ℕ) (r : Release) → Stands s → is_person actor ≡ true → IsId number → IsDigest digest
    → OfHeld (IsSigning s actor number digest) (release_at id s.releases) r → IsDoneFormed (effect.put r) (done.Filed r.id number)
signing_done s actor id number digest r stands person low is_digest is =
    of_held (IsSigning s actor number digest) (IsHeld s) (IsDoneFormed (effect.put r) (done.Filed r.id number)) (release_at id s.releases) r (held_at s id stands)
    (λ q held has. (put_brings r (signing_formed s actor number digest q r stands person is_digest held has), (id_kept r q has.same.id held.low, low))) is

concurring_done : (s : State) (actor : List ℕ) (id number : ℕ) (digest : List ℕ) (r : Release) → Stands s → is_person actor ≡ true → IsId number → IsDigest digest
    → OfHeld (IsConcurring s actor number digest) (release_at id s.releases) r → IsDoneFormed (effect.put_afresh r) (done.Filed r.id number)
concurring_done s actor id number digest r stands person low is_digest is =
    of_held (IsConcurring s actor number digest) (IsHeld s) (IsDoneFormed (effect.put_afresh r) (done.Filed r.id number)) (release_at id s.releases) r (held_at s id stands)
    (λ q held has. (afresh_brings r (concurring_formed s actor number digest q r stands person is_digest held has), (id_kept r q has.same.id held.low, low))) is

amending_done : (s : State) (actor : List ℕ) (id number : ℕ) (plan : Plan) (r : Release) → Stands s → HasForms plan → OfHeld (IsAmending s actor plan number) (release_at id s.releases) r
    → IsDoneFormed (effect.put r) (done.Filed r.id number)
amending_done s actor id number plan r stands forms is =
    of_held (IsAmending s actor plan number) (IsHeld s) (IsDoneFormed (effect.put r) (done.Filed r.id number)) (release_at id s.releases) r (held_at s id stands)
    (λ q held has. (put_brings r (amended_formed s actor plan number q r stands forms held has), (id_kept r q has.same.id held.low, (amended_low s actor plan number q r stands held has).0))) is

cancelling_done : (s : State) (actor : List ℕ) (id : ℕ) (r : Release) → Stands s → OfHeld (IsCancelling s actor) (release_at id s.releases) r
    → IsDoneFormed (effect.put_afresh r) (done.Release r.id)
cancelling_done s actor id r stands is =
    of_held (IsCancelling s actor) (IsHeld s) (IsDoneFormed (effect.put_afresh r) (done.Release r.id)) (release_at id s.releases) r (held_at s id stands)
    (λ q held has. (afresh_brings r (moved_formed s q r (Cancelled s.moment) held stands.bounds.moment has.same.holder has.phase has.active has.pending), id_kept r q has.same.id held.low)) is

departing_done : (s : State) (actor : List ℕ) (id leg : ℕ) (r : Release) → Stands s → OfHeld (IsDeparting s actor leg) (release_at id s.releases) r
    → IsDoneFormed (effect.put r) (done.Release r.id)
departing_done s actor id leg r stands is =
    of_held (IsDeparting s actor leg) (IsHeld s) (IsDoneFormed (effect.put r) (done.Release r.id)) (release_at id s.releases) r (held_at s id stands)
    (λ q held has. (put_brings r (moved_formed s q r (Flying leg) held tt has.same.holder has.phase has.active has.pending), id_kept r q has.same.id held.low)) is

stopping_done : (s : State) (actor : List ℕ) (id leg : ℕ) (r : Release) → Stands s → OfHeld (IsStopping s actor leg) (release_at id s.releases) r
    → IsDoneFormed (effect.put r) (done.Release r.id)
stopping_done s actor id leg r stands is =
    of_held (IsStopping s actor leg) (IsHeld s) (IsDoneFormed (effect.put r) (done.Release r.id)) (release_at id s.releases) r (held_at s id stands)
    (λ q held has. (
      put_brings r (moved_formed s q r (Stopped (leg + 1) s.moment false) held stands.bounds.moment has.arrives.same.holder has.phase has.arrives.active has.arrives.pending),
      id_kept r q has.arrives.same.id held.low,
    )) is

completing_done : (s : State) (actor : List ℕ) (id leg : ℕ) (r : Release) → Stands s → OfHeld (IsCompleting s actor leg) (release_at id s.releases) r
    → IsDoneFormed (effect.put_afresh r) (done.Release r.id)
completing_done s actor id leg r stands is =
    of_held (IsCompleting s actor leg) (IsHeld s) (IsDoneFormed (effect.put_afresh r) (done.Release r.id)) (release_at id s.releases) r (held_at s id stands)
    (λ q held has. (
      afresh_brings r (moved_formed s q r (Completed s.moment) held stands.bounds.moment has.arrives.same.holder has.phase has.arrives.active has.arrives.pending),
      id_kept r q has.arrives.same.id held.low,
    )) is

-- a release that is found
found_low : (s : State) (id : ℕ) (q : Release) → Stands s → release_at id s.releases ≡ Some q → IsId q.id
found_low s id q stands e = let held : IsHeld s q = subst (λ (o : Option Release). IfSome o (IsHeld s)) e (held_at s id stands) in held.low

fewer_reports : (s : State) (before : ℕ) → length (reports_before s before) ≤ length s.reports
unfolding leaving
fewer_reports s before = filter_shorter (λ r. not (stays before (attached_reports s) s.reports r)) s.reports

sweeping_done : (s : State) (before : ℕ) (attached : List ℕ) (floors : List Floor) → Stands s → IsSweeping s before attached floors
    → IsDoneFormed (effect.sweep before attached floors) (done.Swept (length (reports_before s before)) (length (kept_before before s.kept)))
sweeping_done s before attached floors stands is =
    let swept : AllByRecursion ReplyHasForms (kept_before before s.kept) = filter_each ReplyHasForms (λ k. not (is_since before k)) s.kept stands.formed.kept in
    let risen : AllByRecursion IsFloor floors × FloorsRise floors = subst (λ (fs : List Floor). AllByRecursion IsFloor fs × FloorsRise fs) (sym is.floors)
    (raised_formed (kept_before before s.kept) s.floors swept stands.formed.floors, raised_rise (kept_before before s.kept) s.floors stands.formed.rising) in
    let fewer = fewer_reports s before in
    let few = stands.bounds.few in
    let less = filter_shorter (λ k. not (is_since before k)) s.kept in
    let many = stands.bounds.many in
    let entries = stands.bounds.entries in
    (record { admitted = tt; opened = tt; filed = tt; floors = risen }, (omega (arith, fewer, few), omega (arith, less, many, entries)))

-- What an ask of a person brings where it is accepted, and what it is said to have done.
pub effect_formed : (s : State) (actor : List ℕ) {a : Ask} {e : Effect} {made : DoneType} → Stands s → is_person actor ≡ true → IsEffectOf s actor a e made → AskHasForms a
    → IsDoneFormed e made
effect_formed s actor stands person (admits {text = text} {report = report} is) has = (
  record { admitted = received_formed s text report stands.bounds.moment has is; opened = tt; filed = tt; floors = tt },
  next_id report.id s.counters.next_report s.counters.events is.is_new stands.bounds.counters.report stands.bounds.counters.events,
)
effect_formed s actor stands person (defers {tail = tail} {item = item} {found = found} {d = d} is) has = (
  record { admitted = tt; opened = deferred_formed s tail item found d stands.formed.names is; filed = tt; floors = tt },
  next_id d.id s.counters.next_deferral s.counters.events is.is_new stands.bounds.counters.deferral stands.bounds.counters.events,
)
effect_formed s actor stands person (clears is) has = (record { admitted = tt; opened = tt; filed = tt; floors = tt }, has)
effect_formed s actor stands person (drafts {plan = plan} {r = r} is) has = (
  record { admitted = tt; opened = tt; filed = drafted_formed s actor plan r person has is; floors = tt },
  (next_id r.id s.counters.next_release s.counters.events is.is_new stands.bounds.counters.release stands.bounds.counters.events, omega arith),
)
effect_formed s actor stands person (prepares {id = id} {r = r} {w = w} is pending) has = preparing_done s actor id r w stands is pending
effect_formed s actor stands person (signs {id = id} {number = number} {digest = digest} {r = r} is) has = signing_done s actor id number digest r stands person has.1 has.2 is
effect_formed s actor stands person (concurs {id = id} {number = number} {digest = digest} {r = r} is) has = concurring_done s actor id number digest r stands person has.1 has.2 is
effect_formed s actor stands person (amends {id = id} {number = number} {plan = plan} {r = r} is) has = amending_done s actor id number plan r stands has.1 is
effect_formed s actor stands person (cancels {id = id} {r = r} is) has = cancelling_done s actor id r stands is
effect_formed s actor stands person (departs {id = id} {leg = leg} {r = r} is) has = departing_done s actor id leg r stands is
effect_formed s actor stands person (stops {id = id} {leg = leg} {r = r} is) has = stopping_done s actor id leg r stands is
effect_formed s actor stands person (completes {id = id} {leg = leg} {r = r} is) has = completing_done s actor id leg r stands is
effect_formed s actor stands person (acknowledges {id = id} {q = q} held is) has = (record { admitted = tt; opened = tt; filed = tt; floors = tt }, found_low s id q stands held)
effect_formed s actor stands person (sweeps {before = before} {attached = attached} {floors = floors} is) has = sweeping_done s before attached floors stands is
effect_formed s actor stands person (purges {id = id} {q = q} held is) has = (record { admitted = tt; opened = tt; filed = tt; floors = tt }, found_low s id q stands held)

-- The floors of an accepted ask rise.
pub floors_rise : (s : State) (actor : List ℕ) {a : Ask} {e : Effect} {made : DoneType} → AreFormed s → IsEffectOf s actor a e made → IfSome e.sweep (λ w. FloorsRise w.floors)
floors_rise s actor formed (admits is) = tt
floors_rise s actor formed (defers is) = tt
floors_rise s actor formed (clears is) = tt
floors_rise s actor formed (drafts is) = tt
floors_rise s actor formed (prepares is pending) = tt
floors_rise s actor formed (signs is) = tt
floors_rise s actor formed (concurs is) = tt
floors_rise s actor formed (amends is) = tt
floors_rise s actor formed (cancels is) = tt
floors_rise s actor formed (departs is) = tt
floors_rise s actor formed (stops is) = tt
floors_rise s actor formed (completes is) = tt
floors_rise s actor formed (acknowledges held is) = tt
floors_rise s actor formed (sweeps {before = before} {floors = floors} is) = subst FloorsRise (sym is.floors) (raised_rise (kept_before before s.kept) s.floors formed.rising)
floors_rise s actor formed (purges held is) = tt

-- What a call comes to fits the desk.
use Rattle.std.specs.Str.{bytes_eq}
use Rattle.std.proofs.lemmas.Bool.{eqb-true, eq-eqb, leb-false, leb-true, ltb-true, and_parts}
use Rattle.std.proofs.Common.{◌≡◌, ℕ, ◌+◌, ◌/◌, ◌<◌, ◌≤◌, ◌==◌, not, Bool, true, false, cond, eqb, ltb, is_some, List, [], ◌∷◌, length, Option, None, Some, IfSome, Result, Ok, Err, refl, subst, sym, ◌∙◌, arith}
use Rattle.std.specs.Prelude.{nat_le}
use Rattle.std.specs.List.{AllByRecursion}
use Rattle.codes.specs.Groups.{groups_of, canonical}
use Rattle.codes.specs.declared.fault.BadReport.{BadReport}
use Rattle.codes.specs.declared.fault.Why.{Why}
use Rattle.codes.specs.declared.fault.Why.TheVariants as why
use Rattle.facts.specs.Same.{same_id, minute_of_read, station_of_read}
use Rattle.facts.specs.Reading.{read_of}
use Rattle.facts.specs.declared.report.Read.{Read}
use Rattle.ops_tables.specs.Tables.{TableRows, actor_of, has_captain, tail_named, type_of}
use Rattle.ops_tables.specs.Rows.{Actor}
use Rattle.plan.proofs.ChangeLaws.{may_follow}
use Rattle.plan.specs.Change.{change_fault, MayFollow}
use Rattle.plan.specs.Check.{fault_or, first_fault, has_legs, plan_fault, whole_fault, IsPlan}
use Rattle.plan.specs.Phases.{PhaseFits, is_flying}
use Rattle.plan.specs.declared.check.PlanWhy.{PlanWhy}
use Rattle.plan.specs.declared.check.PlanWhy.TheVariants.{UnknownTail, UnknownCaptain, Count}
use Rattle.plan.specs.declared.flights.Leg.{Leg}
use Rattle.release_text.specs.Revisions.{revision_digest}
use Rattle.desk_io.specs.Station.{Station}
use Rattle.plan.specs.declared.check.BadPlan.{BadPlan}
use Rattle.plan.specs.declared.flights.Plan.{Plan}
use Rattle.plan.specs.declared.findings.Finding.{Finding}
use Rattle.plan.specs.declared.release.Phase.{Phase}
use Rattle.plan.specs.declared.release.Phase.TheVariants.{Drafted, Ready, Flying, Stopped, Completed, Cancelled}
use Rattle.plan.specs.declared.release.Release.{Release}
use Rattle.plan.specs.declared.release.Revision.{Revision}
use Rattle.plan.specs.declared.release.Signature.{Signature}
use Rattle.asks.specs.declared.call.Ask.{Ask}
use Rattle.asks.specs.declared.call.Ask.TheVariants as ask
use Rattle.asks.specs.declared.call.Call.{Call}
use Rattle.asks.specs.declared.kept.KeptReply.{KeptReply}
use Rattle.asks.specs.declared.reply.Done.{Done as DoneType}
use Rattle.asks.specs.declared.reply.Reply.TheVariants.{Done}
use Rattle.asks.specs.declared.reply.Refusal.{Refusal}
use Rattle.asks.specs.declared.reply.Refusal.TheVariants.{NumberReused}
use Rattle.asks.specs.Canonical.{ask_digest}
use Rattle.asks.specs.Forms.{CallHasForms}
use Rattle.asks.proofs.AskForms.{call_from_forms}
use Rattle.desk_state.specs.Hours.{captain_hours}
use Rattle.desk_state.specs.declared.effect.Decision.{Decision}
use Rattle.desk_state.specs.declared.effect.Decision.TheVariants.{Show}
use Rattle.desk_state.specs.Requests.{kept_at, floor_at}
use Rattle.desk_time.proofs.MonthLaws.{three_months_low, three_months_range}
use Rattle.alerts.specs.declared.alert.Alert.{Alert}
use Rattle.release_index.specs.Below.{Grounds}
use Rattle.desk_state.specs.State.{State, grounds_of, failing_in, failing_of, release_at, alert_at}
use Rattle.desk_state.specs.Chain.{◌>>-◌, unless, some_or, refused_if}
use Rattle.desk_state.specs.Decide as d
use Rattle.desk_state.specs.Decide.{decide}
use Rattle.desk_state.specs.People.{may_ask, not_his_role}
use Rattle.plan.specs.Texts.{HasMoment}
use Rattle.desk_time.specs.Limits.{IsMoment}
use Rattle.desk_state.specs.Sound.{Sound, InBounds, ReleaseInBounds, RevisionInBounds, IsNew, MayStand, Fits, MayReplace, IsTaken, IsToldTo, Matches, IsAlerted, EffectFits, DecisionFits}
use Rattle.release_text.specs.Valid.{IsPhased, IsThere, AreNumbered, Waits, MaySigned, HasLegs, IsSigned}
use Rattle.desk_state.specs.Effects as effect
use Rattle.desk_state.specs.Texts.{newest, revision_number}
use Rattle.asks.specs.Ranges.{IsCall, CanBeShown, RefusalHasMoment}
use Rattle.desk_state.proofs.Each.{found_each}
use Rattle.desk_state.proofs.Parts.{later_within}
use Rattle.desk_io.proofs.Each.{each_weaker}
use Rattle.desk_io.proofs.Bytes.{same_bytes}
use Rattle.desk_state.proofs.Passed.{some_given, not_so, so, no_plan_fault}

-- Chains.

-- a test that gives a value: its refusal can be written, and what comes after it fits
given : {A : Type 0} (s : State) (m : Result A Refusal) (f : A → Result Decision Refusal) → ((x : Refusal) → m ≡ Err x → RefusalHasMoment x)
    → ((a : A) → m ≡ Ok a → DecisionFits s (f a)) → DecisionFits s (m >>- f)
given s (Err x) f stops goes = stops x refl
given s (Ok a) f stops goes = goes a refl

-- a test that refuses: its refusal can be written, and what comes after it fits
passed : (s : State) (o : Option Refusal) (rest : Result Decision Refusal) → IfSome o RefusalHasMoment → (o ≡ None → DecisionFits s rest) → DecisionFits s (unless o rest)
passed s None rest stops goes = goes refl
passed s (Some x) rest stops goes = stops

some_stops : {A : Type 0} (x : Refusal) (o : Option A) → RefusalHasMoment x → (y : Refusal) → some_or x o ≡ Err y → RefusalHasMoment y
some_stops x None has y e = subst RefusalHasMoment (cc) has
some_stops x (Some a) has y e = absurd (cc)

if_stops : (b : Bool) (x : Refusal) → RefusalHasMoment x → IfSome (refused_if b x) RefusalHasMoment
if_stops true x has = has
if_stops false x has = tt

-- The tests.

refusal_shown : (group : ℕ) (w : Why) → RefusalHasMoment (d.refusal_for group w)
refusal_shown group why.TooLong = tt
refusal_shown group why.Missing = tt
refusal_shown group why.NotStation = tt
refusal_shown group why.NotTime = tt
refusal_shown group why.DayOutOfReach = tt
refusal_shown group why.BadVisibility = tt
refusal_shown group why.BadSky = tt
refusal_shown group why.BadPeriod = tt

failing_stops : (fs : List Finding) → IfSome (d.failing fs) RefusalHasMoment
failing_stops [] = tt
failing_stops (f ∷ fs) = tt

signed_stops : (o : Option Signature) → IfSome (d.signed o) RefusalHasMoment
signed_stops None = tt
signed_stops (Some signature) = tt

unsigned_stops : (o : Option Signature) → IfSome (d.unsigned o) RefusalHasMoment
unsigned_stops None = tt
unsigned_stops (Some signature) = tt

newer_stops : (o : Option ℕ) → IfSome (d.newer_weather o) RefusalHasMoment
newer_stops None = tt
newer_stops (Some report) = tt

failing_any_stops : (o : Option (List Finding)) → IfSome (d.failing_any o) RefusalHasMoment
failing_any_stops None = tt
failing_any_stops (Some fs) = failing_stops fs

plan_stops : (o : Option BadPlan) → IfSome (d.bad_plan o) RefusalHasMoment
plan_stops None = tt
plan_stops (Some bad) = tt

change_stops : (plan : Plan) (o : Option Revision) (phase : Phase) → IfSome (d.bad_change plan o phase) RefusalHasMoment
change_stops plan None phase = tt
change_stops plan (Some v) phase = plan_stops (change_fault plan v.plan phase)

-- What the tests say.

-- the digest that was asked for is that of the text
on_text : (v : Revision) (digest : List ℕ) → d.mistaken_text v digest ≡ None → digest ≡ revision_digest v
on_text v digest e = sym (same_bytes (revision_digest v) digest (so (bytes_eq (revision_digest v) digest) _ e))

signed_once : (v : Revision) (o : Option Signature) → MaySigned v o → d.unsigned o ≡ None → IsSigned v o
signed_once v None may e = absurd (cc)
signed_once v (Some signature) may e = may.1

-- a plan that passes its tests has a leg

whole_first : (why : Option PlanWhy) (later : Option BadPlan) → fault_or why 0 later ≡ None → why ≡ None
whole_first None later e = refl
whole_first (Some why) later e = absurd (cc)

count_by : (tail captain legs : Bool) → cond (not tail) (Some UnknownTail) (cond (not captain) (Some UnknownCaptain) (cond (not legs) (Some Count) None)) ≡ None → legs ≡ true
count_by false captain legs e = absurd (cc)
count_by true false legs e = absurd (cc)
count_by true true false e = absurd (cc)
count_by true true true e = refl

has_a_leg : (tables : TableRows) (plan : Plan) → plan_fault tables plan ≡ None → 1 ≤ length plan.legs
unfolding plan_fault
has_a_leg tables plan e =
    leb-true 1 (length plan.legs)
    (and_parts (nat_le 1 (length plan.legs)) (nat_le (length plan.legs) 8)
    (count_by (is_some (tail_named tables plan.tail)) (has_captain tables plan.captain) (has_legs plan)
    (whole_first (whole_fault tables plan) (first_fault tables 1 None plan.legs) e))).0

-- What releases become.

once_signed_moment : (phase : Phase) → HasMoment phase → HasMoment (d.once_signed phase)
once_signed_moment Drafted has = tt
once_signed_moment Ready has = tt
once_signed_moment (Flying leg) has = tt
once_signed_moment (Stopped next since again) has = has
once_signed_moment (Completed at) has = has
once_signed_moment (Cancelled at) has = has

-- a release with a pending revision may stand with another one
still_phased : (phase : Phase) (v w : Revision) (active : Option Revision) → IsPhased phase (Some v) active → IsPhased phase (Some w) active
still_phased Drafted v w active is = is
still_phased Ready v w active is = is
still_phased (Flying leg) v w active is = is
still_phased (Stopped next since again) v w active is = is
still_phased (Completed at) v w active is = is
still_phased (Cancelled at) v w active is = is

still_numbered : (v w : Revision) (active : Option Revision) → w.number ≡ v.number → AreNumbered (Some v) active → AreNumbered (Some w) active
still_numbered v w None same is = tt
still_numbered v w (Some x) same is = omega (arith, same, is)

active_phased : (phase : Phase) (w : Revision) → IsPhased (d.once_signed phase) None (Some w)
active_phased Drafted w = tt
active_phased Ready w = tt
active_phased (Flying leg) w = tt
active_phased (Stopped next since again) w = tt
active_phased (Completed at) w = tt
active_phased (Cancelled at) w = tt

active_fit : (phase : Phase) (legs : List Leg) → PhaseFits phase legs → PhaseFits (d.once_signed phase) legs
active_fit Drafted legs fits = tt
active_fit Ready legs fits = tt
active_fit (Flying leg) legs fits = fits
active_fit (Stopped next since again) legs fits = fits
active_fit (Completed at) legs fits = tt
active_fit (Cancelled at) legs fits = tt

some_weaker : {A : Type 0} (P Q : A → Type 0) → ((x : A) → P x → Q x) → (o : Option A) → IfSome o P → IfSome o Q
some_weaker P Q f None is = tt
some_weaker P Q f (Some x) is = f x is

-- what is known of a release that is held
record IsHeld (s : State) (r : Release) : Type 0 where
  pub fits : Fits s.counters.events r
  pub holder : IsToldTo r.holder (alert_at r.id s.alerts)
  pub taken : IsTaken r.id s.releases

-- and of its pending revision
record IsPending (s : State) (r : Release) (v : Revision) : Type 0 where
  pub held : IsHeld s r
  pub phased : IsPhased r.phase (Some v) r.active
  pub waits : Waits v
  pub numbered : AreNumbered (Some v) r.active
  pub within : v.number ≤ s.counters.events
  pub legs : HasLegs r.phase v
  pub bounds : RevisionInBounds v

pending_is : (s : State) (r : Release) (p : Option Revision) (v : Revision) → IsHeld s r → r.pending ≡ p → p ≡ Some v → IsPending s r v
pending_is s r None v held is e = absurd (cc)
pending_is s r (Some w) v held is e =
    let same : r.pending ≡ Some v = is ∙ e in
    record {
      held = held;
      phased = subst (λ (o : Option Revision). IsPhased r.phase o r.active) same held.fits.stands.valid.phased;
      waits = subst (λ (o : Option Revision). IfSome o Waits) same held.fits.stands.valid.waits;
      numbered = subst (λ (o : Option Revision). AreNumbered o r.active) same held.fits.stands.valid.numbered;
      within = subst (λ (o : Option Revision). IfSome o (λ x. x.number ≤ s.counters.events)) same held.fits.stands.within.0;
      legs = subst (λ (o : Option Revision). IfSome o (HasLegs r.phase)) same held.fits.stands.valid.pending_legs;
      bounds = subst (λ (o : Option Revision). IfSome o RevisionInBounds) same held.fits.kept.pending;
    }

-- a release whose pending revision is another one of the same number and plan
pending_fits : (s : State) (r : Release) (v w : Revision) → IsPending s r v → w.number ≡ v.number → Waits w → HasLegs r.phase w → RevisionInBounds w → MayReplace s (record r { pending = Some w })
pending_fits s r v w is same waits legs bounds = record {
  fits = record {
    stands = record {
      valid = record {
        phased = still_phased r.phase v w r.active is.phased;
        both = is.held.fits.stands.valid.both;
        waits = waits;
        numbered = still_numbered v w r.active same is.numbered;
        pending_legs = legs;
        active_legs = is.held.fits.stands.valid.active_legs;
      };
      within = (let low = is.within in omega (arith, same, low), later_within s.counters.events r.active is.held.fits.stands.within.1);
    };
    kept = record { moment = is.held.fits.kept.moment; pending = bounds; active = is.held.fits.kept.active };
  };
  holder = is.held.holder;
  taken = is.held.taken;
}

prepared_fits : (s : State) (r : Release) (v : Revision) → IsPending s r v → MayReplace s (d.prepared s r v)
prepared_fits s r v is =
    pending_fits s r v (d.with_weather s r.phase v) is refl (record { captain = refl; hours = refl; dispatcher = tt }) (record { some = is.legs.some; fits = is.legs.fits })
    (record { is_plan = is.bounds.is_plan; dispatcher = tt; captain = tt })

signed_fits : (s : State) (r : Release) (v : Revision) (signature : Signature) → IsMoment signature.at → v.prepared ≡ true → signature.digest ≡ revision_digest v → IsPending s r v
    → MayReplace s (d.with_dispatcher r v signature)
signed_fits s r v signature shown prepared on is =
    pending_fits s r v (record v { dispatcher = Some signature }) is refl (record { captain = is.waits.captain; hours = is.waits.hours; dispatcher = (prepared, on) }) (record { some = is.legs.some; fits = is.legs.fits })
    (record { is_plan = is.bounds.is_plan; dispatcher = shown; captain = is.bounds.captain })

active_fits : (s : State) (r : Release) (v : Revision) (signature : Signature) (hours : ℕ) → IsMoment signature.at → v.prepared ≡ true → signature.digest ≡ revision_digest v → IsPending s r v
    → IsSigned v v.dispatcher → MayReplace s (d.made_active r v signature hours)
active_fits s r v signature hours shown prepared on is signed = record {
  fits = record {
    stands = record {
      valid = record {
        phased = active_phased r.phase (d.with_captain v signature hours);
        both = record { prepared = prepared; dispatcher = signed; captain = on };
        waits = tt;
        numbered = tt;
        pending_legs = tt;
        active_legs = record { some = is.legs.some; fits = active_fit r.phase v.plan.legs is.legs.fits };
      };
      within = (tt, let low = is.within in omega (arith, low));
    };
    kept = record {
      moment = once_signed_moment r.phase is.held.fits.kept.moment;
      pending = tt;
      active = record { is_plan = is.bounds.is_plan; dispatcher = is.bounds.dispatcher; captain = shown };
    };
  };
  holder = is.held.holder;
  taken = is.held.taken;
}

-- a release in another phase, whose pending revision goes
moved_fits : (s : State) (r : Release) (phase : Phase) → IsHeld s r → IsPhased phase None r.active → ((v : Revision) → HasLegs r.phase v → HasLegs phase v) → HasMoment phase
    → MayReplace s (record r { phase = phase; pending = None })
moved_fits s r phase is phased legs shown = record {
  fits = record {
    stands = record {
      valid = record {
        phased = phased;
        both = is.fits.stands.valid.both;
        waits = tt;
        numbered = tt;
        pending_legs = tt;
        active_legs = some_weaker (HasLegs r.phase) (HasLegs phase) legs r.active is.fits.stands.valid.active_legs;
      };
      within = (tt, later_within s.counters.events r.active is.fits.stands.within.1);
    };
    kept = record { moment = shown; pending = tt; active = is.fits.kept.active };
  };
  holder = is.holder;
  taken = is.taken;
}

cancelled_fits : (s : State) (r : Release) → IsHeld s r → IsMoment s.moment → MayReplace s (d.cancelled r s.moment)
cancelled_fits s r is shown = moved_fits s r (Cancelled s.moment) is tt (λ v has. record { some = has.some; fits = tt }) shown

completed_fits : (s : State) (r : Release) → IsHeld s r → IsMoment s.moment → MayReplace s (d.completed r s.moment)
completed_fits s r is shown = moved_fits s r (Completed s.moment) is tt (λ v has. record { some = has.some; fits = tt }) shown

depart_phased : (phase : Phase) (leg : ℕ) (pending active : Option Revision) → d.may_depart phase leg ≡ true → IsPhased phase pending active → IsPhased (Flying leg) None active
depart_phased Drafted leg pending active e is = absurd (cc)
depart_phased Ready leg pending active e is = is
depart_phased (Flying n) leg pending active e is = absurd (cc)
depart_phased (Stopped next since again) leg pending active e is = is
depart_phased (Completed at) leg pending active e is = absurd (cc)
depart_phased (Cancelled at) leg pending active e is = absurd (cc)

depart_fit : (phase : Phase) (leg : ℕ) (legs : List Leg) → d.may_depart phase leg ≡ true → 1 ≤ length legs → PhaseFits phase legs → PhaseFits (Flying leg) legs
depart_fit Drafted leg legs e some fits = absurd (cc)
depart_fit Ready leg legs e some fits = let is = eqb-true leg 1 e in (omega (arith, is), omega (arith, is, some))
depart_fit (Flying n) leg legs e some fits = absurd (cc)
depart_fit (Stopped next since again) leg legs e some fits = let is = eqb-true leg next e in let least = fits.0 in let most = fits.1 in (omega (arith, is, least), omega (arith, is, most))
depart_fit (Completed at) leg legs e some fits = absurd (cc)
depart_fit (Cancelled at) leg legs e some fits = absurd (cc)

departed_fits : (s : State) (r : Release) (leg : ℕ) → IsHeld s r → d.may_depart r.phase leg ≡ true → MayReplace s (d.departed r leg)
departed_fits s r leg is may =
    moved_fits s r (Flying leg) is (depart_phased r.phase leg r.pending r.active may is.fits.stands.valid.phased)
    (λ v has. record { some = has.some; fits = depart_fit r.phase leg v.plan.legs may has.some has.fits }) tt

arrive_phased : (phase : Phase) (leg next since : ℕ) (again : Bool) (pending active : Option Revision) → is_flying phase leg ≡ true → IsPhased phase pending active
    → IsPhased (Stopped next since again) None active
arrive_phased Drafted leg next since again pending active e is = absurd (cc)
arrive_phased Ready leg next since again pending active e is = absurd (cc)
arrive_phased (Flying n) leg next since again pending active e is = is
arrive_phased (Stopped m at other) leg next since again pending active e is = absurd (cc)
arrive_phased (Completed at) leg next since again pending active e is = absurd (cc)
arrive_phased (Cancelled at) leg next since again pending active e is = absurd (cc)

-- after a leg after which another one remains
stop_legs : (phase : Phase) (leg since : ℕ) (o : Option Revision) → ltb leg (d.leg_count o) ≡ true → IfSome o (HasLegs phase) → IfSome o (HasLegs (Stopped (leg + 1) since false))
stop_legs phase leg since None e is = tt
stop_legs phase leg since (Some v) e is = record { some = is.some; fits = (omega arith, let less = ltb-true leg (length v.plan.legs) e in omega (arith, less)) }

stopped_fits : (s : State) (r : Release) (leg : ℕ) → IsHeld s r → is_flying r.phase leg ≡ true → d.has_more r leg ≡ true → IsMoment s.moment → MayReplace s (d.stopped r leg s.moment)
stopped_fits s r leg is may more shown = record {
  fits = record {
    stands = record {
      valid = record {
        phased = arrive_phased r.phase leg (leg + 1) s.moment false r.pending r.active may is.fits.stands.valid.phased;
        both = is.fits.stands.valid.both;
        waits = tt;
        numbered = tt;
        pending_legs = tt;
        active_legs = stop_legs r.phase leg s.moment r.active more is.fits.stands.valid.active_legs;
      };
      within = (tt, later_within s.counters.events r.active is.fits.stands.within.1);
    };
    kept = record { moment = shown; pending = tt; active = is.fits.kept.active };
  };
  holder = is.holder;
  taken = is.taken;
}

-- Amendments.

amend_phased : (phase : Phase) (w : Revision) (pending active : Option Revision) → d.may_change phase ≡ true → IsPhased phase pending active → IsPhased phase (Some w) active
amend_phased Drafted w pending active e is = (tt, is.1)
amend_phased Ready w pending active e is = is
amend_phased (Flying leg) w pending active e is = is
amend_phased (Stopped next since again) w pending active e is = is
amend_phased (Completed at) w pending active e is = absurd (cc)
amend_phased (Cancelled at) w pending active e is = absurd (cc)

amend_numbered : (w : Revision) (pending active : Option Revision) → w.number ≡ revision_number (newest pending active) + 1 → AreNumbered pending active → AreNumbered (Some w) active
amend_numbered w pending None is has = tt
amend_numbered w (Some v) (Some x) is has = omega (arith, is, has)
amend_numbered w None (Some x) is has = omega (arith, is)

next_within : (most : ℕ) (o : Option Revision) → IfSome o (λ v. v.number ≤ most) → revision_number o + 1 ≤ most + 1
next_within most None is = omega arith
next_within most (Some v) is = omega (arith, is)

-- there is a revision until the release has ended
newest_there : (phase : Phase) (pending active : Option Revision) → d.may_change phase ≡ true → IsPhased phase pending active → IsThere (newest pending active)
newest_there phase (Some v) active e is = tt
newest_there Drafted None active e is = absurd is.0
newest_there Ready None active e is = is
newest_there (Flying leg) None active e is = is
newest_there (Stopped next since again) None active e is = is
newest_there (Completed at) None active e is = absurd (cc)
newest_there (Cancelled at) None active e is = absurd (cc)

newest_has : (P : Revision → Type 0) (pending active : Option Revision) → IfSome pending P → IfSome active P → IfSome (newest pending active) P
newest_has P (Some v) active one two = one
newest_has P None active one two = two

-- the legs that remain have the one that the phase names
amend_fit : (phase : Phase) (plan old : Plan) → PhaseFits phase old.legs → MayFollow plan old phase → PhaseFits phase plan.legs
amend_fit Drafted plan old fits may = tt
amend_fit Ready plan old fits may = tt
amend_fit (Flying leg) plan old fits may = let least = fits.0 in let less = may.remains in (least, omega (arith, least, less))
amend_fit (Stopped next since again) plan old fits may = let least = fits.0 in let less = may.remains in (least, omega (arith, least, less))
amend_fit (Completed at) plan old fits may = tt
amend_fit (Cancelled at) plan old fits may = tt

amend_legs : (phase : Phase) (plan : Plan) (o : Option Revision) → IsThere o → IfSome o (HasLegs phase) → d.bad_change plan o phase ≡ None → PhaseFits phase plan.legs
amend_legs phase plan None there has e = absurd there
amend_legs phase plan (Some v) there has e = amend_fit phase plan v.plan has.fits (may_follow plan v.plan phase has.fits (no_plan_fault (change_fault plan v.plan phase) e))

amended_fits : (s : State) (r : Release) (plan : Plan) → IsHeld s r → IsPlan plan → d.may_change r.phase ≡ true → plan_fault s.tables plan ≡ None
    → d.bad_change plan (newest r.pending r.active) r.phase ≡ None → MayReplace s (d.amended r plan)
amended_fits s r plan is form may passes follows =
    let w : Revision = d.fresh_revision (revision_number (newest r.pending r.active) + 1) plan in
    record {
      fits = record {
        stands = record {
          valid = record {
            phased = amend_phased r.phase w r.pending r.active may is.fits.stands.valid.phased;
            both = is.fits.stands.valid.both;
            waits = record { captain = refl; hours = refl; dispatcher = tt };
            numbered = amend_numbered w r.pending r.active refl is.fits.stands.valid.numbered;
            pending_legs = record {
              some = has_a_leg s.tables plan passes;
              fits = amend_legs r.phase plan (newest r.pending r.active) (newest_there r.phase r.pending r.active may is.fits.stands.valid.phased)
                  (newest_has (HasLegs r.phase) r.pending r.active is.fits.stands.valid.pending_legs is.fits.stands.valid.active_legs) follows;
            };
            active_legs = is.fits.stands.valid.active_legs;
          };
          within = (
            next_within s.counters.events (newest r.pending r.active) (newest_has (λ v. v.number ≤ s.counters.events) r.pending r.active is.fits.stands.within.0 is.fits.stands.within.1),
            later_within s.counters.events r.active is.fits.stands.within.1,
          );
        };
        kept = record { moment = is.fits.kept.moment; pending = record { is_plan = form; dispatcher = tt; captain = tt }; active = is.fits.kept.active };
      };
      holder = is.holder;
      taken = is.taken;
    }

-- Effects.

put_fits : (s : State) (r : Release) → MayReplace s r → EffectFits s (effect.put r)
put_fits s r may = record { moment = tt; report = tt; apart = tt; deferrals = tt; releases = may }

put_afresh_fits : (s : State) (r : Release) → MayReplace s r → EffectFits s (effect.put_afresh r)
put_afresh_fits s r may = record { moment = tt; report = tt; apart = tt; deferrals = tt; releases = may }

taken_more : (b : Bool) (q : Release) (id : ℕ) (rs : List Release) → eqb q.id id ≡ b → IsTaken id rs → IsTaken id (q ∷ rs)
taken_more true q id rs e taken = rw e refl
taken_more false q id rs e taken = rw e taken

-- of each release its own id is taken
own_ids : (rs : List Release) → AllByRecursion (λ r. IsTaken r.id rs) rs
own_ids [] = tt
own_ids (q ∷ rs) = (rw (eq-eqb q.id q.id refl) refl, each_weaker (λ r. IsTaken r.id rs) (λ r. IsTaken r.id (q ∷ rs)) (λ r taken. taken_more _ q r.id rs refl taken) rs (own_ids rs))

held_each : (s : State) (rs : List Release) → AllByRecursion (IsAlerted (grounds_of s) s.alerts) rs → AllByRecursion (MayStand s.counters.events) rs → AllByRecursion ReleaseInBounds rs
    → AllByRecursion (λ r. IsTaken r.id s.releases) rs → AllByRecursion (IsHeld s) rs
held_each s [] alerted valid kept taken = tt
held_each s (r ∷ rs) alerted valid kept taken =
    (record { fits = record { stands = valid.0; kept = kept.0 }; holder = alerted.0.1; taken = taken.0 }, held_each s rs alerted.1 valid.1 kept.1 taken.1)

found_held : (s : State) (id : ℕ) → Sound s → InBounds s → IfSome (release_at id s.releases) (IsHeld s)
found_held s id sound kept = found_each (IsHeld s) (λ r. r.id == id) s.releases (held_each s s.releases sound.alerted sound.valid kept.releases (own_ids s.releases))

held_is : (s : State) (o : Option Release) (r : Release) → IfSome o (IsHeld s) → o ≡ Some r → IsHeld s r
held_is s None r is e = absurd (cc)
held_is s (Some q) r is e = subst (λ (p : Option Release). IfSome p (IsHeld s)) e is

-- what holds of each release holds of one that is found
pub found_fits : (s : State) (id : ℕ) (o : Option Release) → o ≡ release_at id s.releases → Sound s → InBounds s → IfSome o (Fits s.counters.events)
found_fits s id o is sound kept =
    subst (λ (p : Option Release). IfSome p (Fits s.counters.events)) (sym is) (some_weaker (IsHeld s) (Fits s.counters.events) (λ r held. held.fits) (release_at id s.releases) (found_held s id sound kept))

-- The asks.

held_by : (s : State) (id : ℕ) (f : Release → Result Decision Refusal) → Sound s → InBounds s → ((r : Release) → IsHeld s r → DecisionFits s (f r)) → DecisionFits s (d.held s id >>- f)
held_by s id f sound kept goes =
    given s (d.held s id) f (some_stops _ (release_at id s.releases) tt)
    (λ r e. goes r (held_is s (release_at id s.releases) r (found_held s id sound kept) (some_given _ (release_at id s.releases) r e)))

pending_by : (s : State) (r : Release) (f : Revision → Result Decision Refusal) → IsHeld s r → ((v : Revision) → IsPending s r v → DecisionFits s (f v)) → DecisionFits s (d.pending r >>- f)
pending_by s r f held goes = given s (d.pending r) f (some_stops _ r.pending tt) (λ v e. goes v (pending_is s r r.pending v held refl (some_given _ r.pending v e)))

admit_new : (s : State) (text : List ℕ) (read : Read) → IsMoment s.moment → same_id s.reports text (minute_of_read read) ≡ None → DecisionFits s (d.admit_new s text read)
admit_new s text read shown none = passed s (d.reports_full s) _ (if_stops (nat_le 200_000 (length s.reports)) _ tt)
    (λ e. record { moment = tt; report = record { is_new = refl; received = shown; unlike = none; few = leb-false 200_000 (length s.reports) (not_so (nat_le 200_000 (length s.reports)) _ e) }; apart = tt; deferrals = tt; releases = tt })

admit_read : (o : Option ℕ) (s : State) (text : List ℕ) (read : Read) → IsMoment s.moment → same_id s.reports text (minute_of_read read) ≡ o → DecisionFits s (d.admit_read o s text read)
admit_read (Some id) s text read shown same = tt
admit_read None s text read shown same = admit_new s text read shown same

reading_stops : (r : Result Read BadReport) (x : Refusal) → d.reading_or r ≡ Err x → RefusalHasMoment x
reading_stops (Ok read) x e = absurd (cc)
reading_stops (Err bad) x e = subst RefusalHasMoment (cc) (refusal_shown bad.group bad.why)

admit : (s : State) (text : List ℕ) → InBounds s → DecisionFits s (d.decide_admit s text)
admit s text kept =
    given s (d.reading_or (read_of text s.moment)) _ (reading_stops (read_of text s.moment))
    (λ read e. passed s (d.no_airport s (station_of_read read)) _ (if_stops _ _ tt)
    (λ f. admit_read (same_id s.reports (canonical (groups_of text)) (minute_of_read read)) s (canonical (groups_of text)) read kept.moment refl))

-- each moment that the desk takes can be shown
now_shown : (m : ℕ) → IsMoment m → CanBeShown m
now_shown m is = let low = is.0 in let high = is.1 in (omega (arith, low), omega (arith, high))

defer : (s : State) (tail item : List ℕ) (found : ℕ) → InBounds s → IsMoment found → DecisionFits s (d.decide_defer s tail item found)
defer s tail item found kept shown =
    given s (d.aircraft s tail) _ (some_stops _ (type_of s.tables tail) tt)
    (λ kind e. passed s (d.unlisted s kind item) _ (if_stops _ _ tt)
    (λ f. passed s (d.found_later s found) _ (if_stops _ _ (now_shown s.moment kept.moment))
    (λ g. passed s (d.deferrals_full s) _ (if_stops _ _ tt)
    (λ h. record { moment = tt; report = tt; apart = tt; deferrals = record { is_new = refl; found = shown; few = leb-false 50_000 (length s.deferrals) (not_so (nat_le 50_000 (length s.deferrals)) _ h) }; releases = tt }))))

clear : (s : State) (id : ℕ) → DecisionFits s (d.decide_clear s id)
clear s id = passed s (d.not_open s id) _ (if_stops _ _ tt) (λ e. record { moment = tt; report = tt; apart = tt; deferrals = tt; releases = tt })

deferred : (s : State) (tail : List ℕ) → DecisionFits s (d.decide_deferred s tail)
deferred s tail = given s (d.aircraft s tail) _ (some_stops _ (type_of s.tables tail) tt) (λ kind e. tt)

drafted_fits : (s : State) (actor : List ℕ) (plan : Plan) → IsPlan plan → plan_fault s.tables plan ≡ None → length s.releases < 20_000
    → IsNew (s.counters.events + 1) s.counters.next_release (length s.releases) (d.drafted s.counters.next_release actor plan)
drafted_fits s actor plan form passes few = record {
  fits = record {
    stands = record {
      valid = record {
        phased = (tt, tt);
        both = tt;
        waits = record { captain = refl; hours = refl; dispatcher = tt };
        numbered = tt;
        pending_legs = record { some = has_a_leg s.tables plan passes; fits = tt };
        active_legs = tt;
      };
      within = (omega arith, tt);
    };
    kept = record { moment = tt; pending = record { is_plan = form; dispatcher = tt; captain = tt }; active = tt };
  };
  numbered = refl;
  few = few;
}

draft : (s : State) (actor : List ℕ) (plan : Plan) → IsPlan plan → DecisionFits s (d.decide_draft s actor plan)
draft s actor plan form = passed s (d.bad_plan (plan_fault s.tables plan)) _ (plan_stops (plan_fault s.tables plan))
    (λ e. passed s (d.releases_full s) _ (if_stops (nat_le 20_000 (length s.releases)) _ tt)
    (λ f. record {
      moment = tt;
      report = tt;
      apart = tt;
      deferrals = tt;
      releases = drafted_fits s actor plan form (no_plan_fault (plan_fault s.tables plan) e) (leb-false 20_000 (length s.releases) (not_so (nat_le 20_000 (length s.releases)) _ f));
    }))

prepare : (s : State) (actor : List ℕ) (id : ℕ) → Sound s → InBounds s → DecisionFits s (d.decide_prepare s actor id)
prepare s actor id sound kept =
    held_by s id _ sound kept (λ r held. pending_by s r _ held (λ v is.
    passed s (d.not_yours r.holder actor) _ (if_stops _ _ tt) (λ own. put_fits s _ (prepared_fits s r v is))))

sign : (s : State) (actor : List ℕ) (id number : ℕ) (digest : List ℕ) → Sound s → InBounds s → DecisionFits s (d.decide_sign s actor id number digest)
sign s actor id number digest sound kept =
    held_by s id _ sound kept (λ r held. pending_by s r _ held (λ v is.
    passed s (d.unprepared v) _ (if_stops _ _ tt) (λ ready.
    passed s (d.not_yours r.holder actor) _ (if_stops _ _ tt) (λ own.
    passed s (d.misnumbered v number) _ (if_stops _ _ tt) (λ e.
    passed s (d.mistaken_text v digest) _ (if_stops _ _ tt) (λ on.
    passed s (d.signed v.dispatcher) _ (signed_stops v.dispatcher) (λ f.
    passed s (d.outdated s r v) _ (newer_stops _) (λ g.
    passed s (d.fails s r v) _ (failing_stops _) (λ h.
    put_fits s _ (signed_fits s r v (d.signed_by actor s.moment digest) kept.moment (so v.prepared _ ready) (on_text v digest on) is))))))))))

concur : (s : State) (actor : List ℕ) (id number : ℕ) (digest : List ℕ) → Sound s → InBounds s → DecisionFits s (d.decide_concur s actor id number digest)
concur s actor id number digest sound kept =
    held_by s id _ sound kept (λ r held. pending_by s r _ held (λ v is.
    passed s (d.unprepared v) _ (if_stops _ _ tt) (λ ready.
    passed s (d.unsigned v.dispatcher) _ (unsigned_stops v.dispatcher) (λ e.
    passed s (d.not_yours v.plan.captain actor) _ (if_stops _ _ tt) (λ own.
    passed s (d.misnumbered v number) _ (if_stops _ _ tt) (λ f.
    passed s (d.mistaken_text v digest) _ (if_stops _ _ tt) (λ on.
    passed s (d.outdated s r v) _ (newer_stops _) (λ g.
    passed s (d.fails s r v) _ (failing_stops _) (λ h.
    put_afresh_fits s _ (active_fits s r v (d.signed_by actor s.moment digest) (captain_hours s.tables v.plan) kept.moment (so v.prepared _ ready) (on_text v digest on) is (signed_once v v.dispatcher is.waits.dispatcher e)))))))))))

amend : (s : State) (actor : List ℕ) (id : ℕ) (plan : Plan) → Sound s → InBounds s → IsPlan plan → DecisionFits s (d.decide_amend s actor id plan)
amend s actor id plan sound kept form =
    held_by s id _ sound kept (λ r held.
    passed s (d.out_of_phase (d.may_change r.phase) r.phase) _ (if_stops _ _ held.fits.kept.moment) (λ may.
    passed s (d.not_yours r.holder actor) _ (if_stops _ _ tt) (λ own.
    passed s (d.bad_plan (plan_fault s.tables plan)) _ (plan_stops (plan_fault s.tables plan)) (λ passes.
    passed s (d.bad_change plan (newest r.pending r.active) r.phase) _ (change_stops plan (newest r.pending r.active) r.phase) (λ follows.
    put_fits s _ (amended_fits s r plan held form (so (d.may_change r.phase) _ may) (no_plan_fault (plan_fault s.tables plan) passes) follows))))))

cancel : (s : State) (actor : List ℕ) (id : ℕ) → Sound s → InBounds s → DecisionFits s (d.decide_cancel s actor id)
cancel s actor id sound kept =
    held_by s id _ sound kept (λ r held. passed s (d.out_of_phase (d.may_change r.phase) r.phase) _ (if_stops _ _ held.fits.kept.moment)
    (λ e. passed s (d.not_yours r.holder actor) _ (if_stops _ _ tt) (λ own. put_afresh_fits s _ (cancelled_fits s r held kept.moment))))

depart : (s : State) (actor : List ℕ) (id leg : ℕ) → Sound s → InBounds s → DecisionFits s (d.decide_depart s actor id leg)
depart s actor id leg sound kept =
    held_by s id _ sound kept (λ r held. passed s (d.out_of_phase (d.may_depart r.phase leg) r.phase) _ (if_stops _ _ held.fits.kept.moment)
    (λ may. passed s (d.not_yours (d.flies_by (actor_of s.tables actor) r) actor) _ (if_stops _ _ tt) (λ own.
    passed s (d.fails_now s r) _ (failing_any_stops _) (λ e. put_fits s _ (departed_fits s r leg held (so (d.may_depart r.phase leg) _ may))))))

arrival_fits : (more : Bool) (s : State) (r : Release) (leg : ℕ) → IsHeld s r → is_flying r.phase leg ≡ true → d.has_more r leg ≡ more → IsMoment s.moment
    → DecisionFits s (Ok (d.arrival more r leg s.moment))
arrival_fits true s r leg held may more shown = put_fits s _ (stopped_fits s r leg held may more shown)
arrival_fits false s r leg held may more shown = put_afresh_fits s _ (completed_fits s r held shown)

arrive : (s : State) (actor : List ℕ) (id leg : ℕ) → Sound s → InBounds s → DecisionFits s (d.decide_arrive s actor id leg)
arrive s actor id leg sound kept =
    held_by s id _ sound kept (λ r held. passed s (d.out_of_phase (is_flying r.phase leg) r.phase) _ (if_stops _ _ held.fits.kept.moment)
    (λ may. passed s (d.not_yours (d.flies_by (actor_of s.tables actor) r) actor) _ (if_stops _ _ tt) (λ own.
    arrival_fits (d.has_more r leg) s r leg held (so (is_flying r.phase leg) _ may) refl kept.moment)))

acknowledge : (s : State) (actor : List ℕ) (id version : ℕ) → Sound s → InBounds s → DecisionFits s (d.decide_acknowledge s actor id version)
acknowledge s actor id version sound kept =
    held_by s id _ sound kept (λ r held. given s (d.alert_of s r.id) _ (some_stops _ (alert_at r.id s.alerts) tt)
    (λ a e. passed s (d.not_yours r.holder actor) _ (if_stops _ _ tt) (λ own. passed s (d.moved a version) _ (if_stops _ _ tt)
    (λ f. record { moment = tt; report = tt; apart = tt; deferrals = tt; releases = tt }))))

-- a release that ended has no alert

ended_alone : (g : Grounds) (phase : Phase) (active : Option Revision) (at : ℕ) → d.ended_at phase ≡ Some at → failing_in g active phase ≡ None
ended_alone g phase None at e = refl
ended_alone g Drafted (Some v) at e = absurd (cc)
ended_alone g Ready (Some v) at e = absurd (cc)
ended_alone g (Flying leg) (Some v) at e = absurd (cc)
ended_alone g (Stopped next since again) (Some v) at e = absurd (cc)
ended_alone g (Completed since) (Some v) at e = refl
ended_alone g (Cancelled since) (Some v) at e = refl

none_matches : (o : Option Alert) (failing : Option (List Finding)) → failing ≡ None → Matches o failing → o ≡ None
none_matches None failing e is = refl
none_matches (Some a) None e is = absurd is
none_matches (Some a) (Some fs) e is = absurd (cc)

alerted_is : (s : State) (o : Option Release) (r : Release) → IfSome o (IsAlerted (grounds_of s) s.alerts) → o ≡ Some r → IsAlerted (grounds_of s) s.alerts r
alerted_is s None r is e = absurd (cc)
alerted_is s (Some q) r is e = subst (λ (p : Option Release). IfSome p (IsAlerted (grounds_of s) s.alerts)) e is

found_alerted : (s : State) (id : ℕ) (r : Release) → Sound s → release_at id s.releases ≡ Some r → IsAlerted (grounds_of s) s.alerts r
found_alerted s id r sound e = alerted_is s (release_at id s.releases) r (found_each (IsAlerted (grounds_of s) s.alerts) (λ q. q.id == id) s.releases sound.alerted) e

removed_fits : (s : State) (id : ℕ) (r : Release) (at : ℕ) → Sound s → release_at id s.releases ≡ Some r → d.ended_at r.phase ≡ Some at → EffectFits s (effect.remove r.id)
removed_fits s id r at sound is ended = record {
  moment = tt;
  report = tt;
  apart = tt;
  deferrals = tt;
  releases = none_matches (alert_at r.id s.alerts) (failing_of (grounds_of s) r) (ended_alone (grounds_of s) r.phase r.active at ended) (found_alerted s id r sound is).0;
}

-- until when a release is kept, from the moment at which it ended

pub ended_moment : (phase : Phase) (at : ℕ) → d.ended_at phase ≡ Some at → HasMoment phase → IsMoment at
ended_moment Drafted at e has = absurd (cc)
ended_moment Ready at e has = absurd (cc)
ended_moment (Flying leg) at e has = absurd (cc)
ended_moment (Stopped next since again) at e has = absurd (cc)
ended_moment (Completed since) at e has = subst IsMoment (cc) has
ended_moment (Cancelled since) at e has = subst IsMoment (cc) has

kept_shown : (at : ℕ) → IsMoment at → CanBeShown (d.kept_until at)
kept_shown at is =
    let low = is.0 in
    let high = is.1 in
    let least = three_months_low (at / 1440) (omega (arith, low)) (omega (arith, high)) in
    let most = three_months_range (at / 1440) (omega (arith, low)) (omega (arith, high)) in
    (omega (arith, least), omega (arith, most))

ended_stops : (phase : Phase) (x : Refusal) → HasMoment phase → d.ended phase ≡ Err x → RefusalHasMoment x
ended_stops phase x has e = some_stops _ (d.ended_at phase) has x e

purge : (s : State) (id : ℕ) → Sound s → InBounds s → DecisionFits s (d.decide_purge s id)
purge s id sound kept =
    given s (d.held s id) _ (some_stops _ (release_at id s.releases) tt)
    (λ r e. let is : release_at id s.releases ≡ Some r = some_given _ (release_at id s.releases) r e in
    let held = held_is s (release_at id s.releases) r (found_held s id sound kept) is in
    given s (d.ended r.phase) _ (λ x f. ended_stops r.phase x held.fits.kept.moment f)
    (λ at f. let ended : d.ended_at r.phase ≡ Some at = some_given _ (d.ended_at r.phase) at f in
    passed s (d.too_young s (d.kept_until at)) _ (if_stops _ _ (kept_shown at (ended_moment r.phase at ended held.fits.kept.moment)))
    (λ g. removed_fits s id r at sound is ended)))

sweep_shown : (before : ℕ) → IsMoment before → CanBeShown (before + 4320)
sweep_shown before is = let low = is.0 in let high = is.1 in (omega (arith, low), omega (arith, high))

sweep : (s : State) (before : ℕ) → IsMoment before → DecisionFits s (d.decide_sweep s before)
sweep s before is =
    passed s (d.too_young s (before + 4320)) _ (if_stops _ _ (sweep_shown before is)) (λ e. record { moment = tt; report = tt; apart = tt; deferrals = tt; releases = tt })

view_release : (s : State) (id : ℕ) → Sound s → InBounds s → DecisionFits s (d.decide_release s id)
view_release s id sound kept = held_by s id _ sound kept (λ r held. tt)

view_weather : (s : State) (station : Station) → DecisionFits s (d.decide_weather s station)
view_weather s station = passed s (d.no_airport s station) _ (if_stops _ _ tt) (λ e. tt)

ask_fits : (s : State) (actor : List ℕ) (a : Ask) → Sound s → InBounds s → IsCall a → DecisionFits s (d.decide_ask s actor a)
ask_fits s actor (ask.Admit text) sound kept is = admit s text kept
ask_fits s actor (ask.Defer tail item found) sound kept is = defer s tail item found kept is
ask_fits s actor (ask.Clear deferral) sound kept is = clear s deferral
ask_fits s actor (ask.Draft plan) sound kept is = draft s actor plan is
ask_fits s actor (ask.Prepare release) sound kept is = prepare s actor release sound kept
ask_fits s actor (ask.Sign release revision digest) sound kept is = sign s actor release revision digest sound kept
ask_fits s actor (ask.Concur release revision digest) sound kept is = concur s actor release revision digest sound kept
ask_fits s actor (ask.Amend release plan) sound kept is = amend s actor release plan sound kept is
ask_fits s actor (ask.Cancel release) sound kept is = cancel s actor release sound kept
ask_fits s actor (ask.Depart release leg) sound kept is = depart s actor release leg sound kept
ask_fits s actor (ask.Arrive release leg) sound kept is = arrive s actor release leg sound kept
ask_fits s actor (ask.Acknowledge release version) sound kept is = acknowledge s actor release version sound kept
ask_fits s actor (ask.Purge release) sound kept is = purge s release sound kept
ask_fits s actor (ask.Sweep before) sound kept is = sweep s before is
ask_fits s actor ask.ViewBoard sound kept is = tt
ask_fits s actor ask.ViewAlerts sound kept is = tt
ask_fits s actor (ask.ViewRelease release) sound kept is = view_release s release sound kept
ask_fits s actor (ask.ViewWeather station) sound kept is = view_weather s station
ask_fits s actor (ask.ViewDeferred tail) sound kept is = deferred s tail

role_stops : (o : Option Actor) (a : Ask) → IfSome (not_his_role o a) RefusalHasMoment
role_stops None a = tt
role_stops (Some person) a = if_stops (not (may_ask a person.role)) _ tt

repeated_by : (s : State) (b : Bool) (id : ℕ) (made : DoneType) → DecisionFits s (cond b (Ok (Show (Done made))) (Err (NumberReused id)))
repeated_by s true id made = tt
repeated_by s false id made = tt

floor_stops : (o : Option ℕ) (number : ℕ) → IfSome (d.up_to_floor o number) RefusalHasMoment
floor_stops None number = tt
floor_stops (Some floor) number = if_stops (nat_le number floor) _ tt

new_fits : (o : Option KeptReply) (s : State) (call : Call) → Sound s → InBounds s → IsCall call.ask → DecisionFits s (d.decide_new o s call)
new_fits (Some k) s call sound kept is = repeated_by s (bytes_eq k.digest (ask_digest call.ask)) k.id k.done
new_fits None s call sound kept is =
    passed s (d.swept_number s call.actor call.number) _ (floor_stops (floor_at call.actor s.floors) call.number) (λ e. ask_fits s call.actor call.ask sound kept is)

numbered_fits : (view : Bool) (s : State) (call : Call) → Sound s → InBounds s → IsCall call.ask → DecisionFits s (d.decide_numbered view s call)
numbered_fits true s call sound kept is = ask_fits s call.actor call.ask sound kept is
numbered_fits false s call sound kept is = new_fits (kept_at call.actor call.number s.kept) s call sound kept is

pub decision_fits : (s : State) (call : Call) → Sound s → InBounds s → CallHasForms call → DecisionFits s (decide s call)
unfolding decide
decision_fits s call sound kept is =
    passed s (not_his_role (actor_of s.tables call.actor) call.ask) _ (role_stops (actor_of s.tables call.actor) call.ask)
    (λ e. numbered_fits (d.is_view call.ask) s call sound kept (call_from_forms call.ask is.ask))

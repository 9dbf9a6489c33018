-- A plan that may take the place of another keeps what is flown.
use Rattle.std.proofs.Common.{◌≡◌, ℕ, zero, suc, ◌+◌, ◌<◌, ◌==◌, Bool, true, false, not, ◌&&◌, ◌||◌, cond, List, [], ◌∷◌, length, take, Option, None, Some, is_some, IfSome, refl, ap, sym, ◌∙◌, arith, ◌≤◌, slice_get, option_map, bytes_eq, length-take-le}
use Rattle.std.proofs.lemmas.Bool.{eqb-true, and_parts, not-false, or_parts}
use Rattle.std.proofs.lemmas.Option.{slice_get_within}
use Rattle.desk_io.specs.Station.{Station}
use Rattle.plan.specs.Change.{is_same_takeoff, is_same_alternate, are_same_alternates, has_same_ends, has_same_times, has_same_fuel, has_same_alternates, is_same_leg, departs_alike, first_changed, next_fault, flown_fault, is_same_kind, is_changed, flown_at, change_fault, DepartsAlike, BothDepartAlike, MayFollow}
use Rattle.plan.specs.Phases.{in_flight, flown, PhaseFits}
use Rattle.plan.specs.declared.check.BadPlan.{BadPlan}
use Rattle.plan.specs.declared.check.PlanWhy.TheVariants as why
use Rattle.plan.specs.declared.flights.Alternate.{Alternate}
use Rattle.plan.specs.declared.flights.Kind.{Kind}
use Rattle.plan.specs.declared.flights.Kind.TheVariants.{Domestic, Flag}
use Rattle.plan.specs.declared.flights.Leg.{Leg}
use Rattle.plan.specs.declared.flights.Plan.{Plan}
use Rattle.plan.specs.declared.flights.TakeoffAlternate.{TakeoffAlternate}
use Rattle.plan.specs.declared.release.Phase.{Phase}
use Rattle.plan.specs.declared.release.Phase.TheVariants.{Drafted, Ready, Flying, Stopped, Completed, Cancelled}
use Rattle.desk_io.proofs.Bytes.{same_bytes}
use Rattle.desk_time.specs.Digits.{or_else}

abbrev takeoff : Station → ℕ → TakeoffAlternate
takeoff station minutes = record { station = station; minutes = minutes }

same_takeoff : (a b : Option TakeoffAlternate) → is_same_takeoff a b ≡ true → a ≡ b
same_takeoff None None e = refl
same_takeoff None (Some b) e = absurd cc
same_takeoff (Some a) None e = absurd cc
same_takeoff (Some a) (Some b) e =
    let is = and_parts (bytes_eq a.station b.station) (a.minutes == b.minutes) e in
    ap (λ s. Some (takeoff s a.minutes)) (same_bytes a.station b.station is.0) ∙ ap (λ m. Some (takeoff b.station m)) (eqb-true a.minutes b.minutes is.1)

abbrev alternate : Station → ℕ → ℕ → Alternate
alternate station minutes fuel = record { station = station; minutes = minutes; fuel = fuel }

same_alternate : (a b : Alternate) → is_same_alternate a b ≡ true → a ≡ b
same_alternate a b e =
    let is = and_parts (bytes_eq a.station b.station && (a.minutes == b.minutes)) (a.fuel == b.fuel) e in
    let first = and_parts (bytes_eq a.station b.station) (a.minutes == b.minutes) is.0 in
    ap (λ s. alternate s a.minutes a.fuel) (same_bytes a.station b.station first.0)
    ∙ ap (λ m. alternate b.station m a.fuel) (eqb-true a.minutes b.minutes first.1)
    ∙ ap (λ f. alternate b.station b.minutes f) (eqb-true a.fuel b.fuel is.1)

same_alternates : (xs ys : List Alternate) → are_same_alternates xs ys ≡ true → xs ≡ ys
same_alternates [] [] e = refl
same_alternates [] (b ∷ ys) e = absurd cc
same_alternates (a ∷ xs) [] e = absurd cc
same_alternates (a ∷ xs) (b ∷ ys) e =
    let is = and_parts (is_same_alternate a b) (are_same_alternates xs ys) e in
    ap (λ x. x ∷ xs) (same_alternate a b is.0) ∙ ap (λ rest. b ∷ rest) (same_alternates xs ys is.1)

abbrev leg_of : Station → Station → ℕ → ℕ → ℕ → ℕ → ℕ → ℕ → ℕ → Option TakeoffAlternate → List Alternate → Leg
leg_of from to etd eta minutes burn extra minimum onboard takeoff_alternate alternates =
    record { from = from; to = to; etd = etd; eta = eta; minutes = minutes; burn = burn; extra = extra; minimum = minimum; onboard = onboard; takeoff_alternate = takeoff_alternate; alternates = alternates }

same_leg : (a b : Leg) → is_same_leg a b ≡ true → a ≡ b
same_leg a b e =
    let rest = and_parts (has_same_ends a b && has_same_times a b && has_same_fuel a b) (has_same_alternates a b) e in
    let more = and_parts (has_same_ends a b && has_same_times a b) (has_same_fuel a b) rest.0 in
    let first = and_parts (has_same_ends a b) (has_same_times a b) more.0 in
    let ends = and_parts (bytes_eq a.from b.from) (bytes_eq a.to b.to) first.0 in
    let times = and_parts ((a.etd == b.etd) && (a.eta == b.eta)) (a.minutes == b.minutes) first.1 in
    let moments = and_parts (a.etd == b.etd) (a.eta == b.eta) times.0 in
    let fuel = and_parts ((a.burn == b.burn) && (a.extra == b.extra) && (a.minimum == b.minimum)) (a.onboard == b.onboard) more.1 in
    let fuels = and_parts ((a.burn == b.burn) && (a.extra == b.extra)) (a.minimum == b.minimum) fuel.0 in
    let burns = and_parts (a.burn == b.burn) (a.extra == b.extra) fuels.0 in
    let others = and_parts (is_same_takeoff a.takeoff_alternate b.takeoff_alternate) (are_same_alternates a.alternates b.alternates) rest.1 in
    ap (λ x. leg_of x a.to a.etd a.eta a.minutes a.burn a.extra a.minimum a.onboard a.takeoff_alternate a.alternates) (same_bytes a.from b.from ends.0)
    ∙ ap (λ x. leg_of b.from x a.etd a.eta a.minutes a.burn a.extra a.minimum a.onboard a.takeoff_alternate a.alternates) (same_bytes a.to b.to ends.1)
    ∙ ap (λ x. leg_of b.from b.to x a.eta a.minutes a.burn a.extra a.minimum a.onboard a.takeoff_alternate a.alternates) (eqb-true a.etd b.etd moments.0)
    ∙ ap (λ x. leg_of b.from b.to b.etd x a.minutes a.burn a.extra a.minimum a.onboard a.takeoff_alternate a.alternates) (eqb-true a.eta b.eta moments.1)
    ∙ ap (λ x. leg_of b.from b.to b.etd b.eta x a.burn a.extra a.minimum a.onboard a.takeoff_alternate a.alternates) (eqb-true a.minutes b.minutes times.1)
    ∙ ap (λ x. leg_of b.from b.to b.etd b.eta b.minutes x a.extra a.minimum a.onboard a.takeoff_alternate a.alternates) (eqb-true a.burn b.burn burns.0)
    ∙ ap (λ x. leg_of b.from b.to b.etd b.eta b.minutes b.burn x a.minimum a.onboard a.takeoff_alternate a.alternates) (eqb-true a.extra b.extra burns.1)
    ∙ ap (λ x. leg_of b.from b.to b.etd b.eta b.minutes b.burn b.extra x a.onboard a.takeoff_alternate a.alternates) (eqb-true a.minimum b.minimum fuels.1)
    ∙ ap (λ x. leg_of b.from b.to b.etd b.eta b.minutes b.burn b.extra b.minimum x a.takeoff_alternate a.alternates) (eqb-true a.onboard b.onboard fuel.1)
    ∙ ap (λ x. leg_of b.from b.to b.etd b.eta b.minutes b.burn b.extra b.minimum b.onboard x a.alternates) (same_takeoff a.takeoff_alternate b.takeoff_alternate others.0)
    ∙ ap (λ x. leg_of b.from b.to b.etd b.eta b.minutes b.burn b.extra b.minimum b.onboard b.takeoff_alternate x) (same_alternates a.alternates b.alternates others.1)

-- legs that haven't changed are at the front of the others
unchanged_by : (same : Bool) (n : ℕ) (rest : Option ℕ) → cond same rest (Some n) ≡ None → (same ≡ true) × (rest ≡ None)
unchanged_by true n rest e = (refl, e)
unchanged_by false n rest e = absurd cc

unchanged : (n k : ℕ) (old legs : List Leg) → first_changed n (take k old) legs ≡ None → length (take k old) ≡ k → take k legs ≡ take k old
unchanged n zero old legs e long = refl
unchanged n (suc k) [] legs e long = absurd (omega (arith, long))
unchanged n (suc k) (o ∷ os) [] e long = absurd cc
unchanged n (suc k) (o ∷ os) (l ∷ ls) e long =
    let is = unchanged_by (is_same_leg o l) n (first_changed (n + 1) (take k os) ls) e in
    ap (λ xs. l ∷ xs) (unchanged (n + 1) k os ls is.1 (omega (arith, long))) ∙ ap (λ x. x ∷ take k os) (sym (same_leg o l is.0))

pub flown_within : (phase : Phase) (legs : List Leg) → PhaseFits phase legs → flown phase legs ≤ length legs
flown_within Drafted legs fits = omega arith
flown_within Ready legs fits = omega arith
flown_within (Flying n) legs fits = let most = fits.1 in omega (arith, most)
flown_within (Stopped next since again) legs fits = let most = fits.1 in omega (arith, most)
flown_within (Completed at) legs fits = omega arith
flown_within (Cancelled at) legs fits = omega arith

none_of_both : (a b : Option ℕ) → or_else a b ≡ None → (a ≡ None) × (b ≡ None)
none_of_both None b e = (refl, e)
none_of_both (Some n) b e = absurd cc

none_mapped : (o : Option ℕ) → option_map flown_at o ≡ None → o ≡ None
none_mapped None e = refl
none_mapped (Some n) e = absurd cc

remains : (f : Option ℕ) (n k : ℕ) (old o : Option Leg) (legs : List Leg) → slice_get legs k ≡ o → next_fault f n old o ≡ None → k < length legs
remains f n k old None legs is e = absurd cc
remains f n k old (Some leg) legs is e = slice_get_within legs k leg is

alike : (a b : Leg) → departs_alike a b ≡ true → DepartsAlike a b
alike a b e =
    let rest = and_parts (bytes_eq a.from b.from && (a.etd == b.etd)) (is_same_takeoff a.takeoff_alternate b.takeoff_alternate) e in
    let first = and_parts (bytes_eq a.from b.from) (a.etd == b.etd) rest.0 in
    record {
      from = sym (same_bytes a.from b.from first.0);
      etd = sym (eqb-true a.etd b.etd first.1);
      takeoff = sym (same_takeoff a.takeoff_alternate b.takeoff_alternate rest.1);
    }

departed_by : (same : Bool) (n : ℕ) → cond same None (Some n) ≡ None → same ≡ true
departed_by true n e = refl
departed_by false n e = absurd cc

departed : (f : Option ℕ) (n : ℕ) (old o : Option Leg) → next_fault f n old o ≡ None → IfSome f (λ leg. BothDepartAlike old o)
departed None n old o e = tt
departed (Some f) n old None e = absurd cc
departed (Some f) n None (Some leg) e = absurd cc
departed (Some f) n (Some was) (Some leg) e = alike was leg (departed_by (departs_alike was leg) n e)

same_kind : (a b : Kind) → is_same_kind a b ≡ true → a ≡ b
same_kind Domestic Domestic e = refl
same_kind Domestic Flag e = absurd cc
same_kind Flag Domestic e = absurd cc
same_kind Flag Flag e = refl

same_tail : (f : Option ℕ) (a b : List ℕ) → (is_some f && not (bytes_eq a b)) ≡ false → IfSome f (λ leg. a ≡ b)
same_tail None a b e = tt
same_tail (Some n) a b e = same_bytes a b (not-false (bytes_eq a b) e)

unchanged_plan : (changed : Bool) (bad : BadPlan) (rest : Option BadPlan) → cond changed (Some bad) rest ≡ None → (changed ≡ false) × (rest ≡ None)
unchanged_plan true bad rest e = absurd cc
unchanged_plan false bad rest e = (refl, e)

pub may_follow : (plan old : Plan) (phase : Phase) → PhaseFits phase old.legs → change_fault plan old phase ≡ None → MayFollow plan old phase
unfolding change_fault
may_follow plan old phase fits e =
    let k : ℕ = flown phase old.legs in
    let is = unchanged_plan (is_changed phase plan old) (record { leg = 0; why = why.Changed }) (option_map flown_at (flown_fault phase old.legs plan.legs)) e in
    let others = or_parts (not (bytes_eq plan.flight old.flight) || not (is_same_kind plan.kind old.kind)) (is_some (in_flight phase) && not (bytes_eq plan.tail old.tail)) is.0 in
    let first = or_parts (not (bytes_eq plan.flight old.flight)) (not (is_same_kind plan.kind old.kind)) others.0 in
    let none = none_of_both (first_changed 1 (take k old.legs) plan.legs) (next_fault (in_flight phase) (k + 1) (slice_get old.legs k) (slice_get plan.legs k)) (none_mapped (flown_fault phase old.legs plan.legs) is.1) in
    record {
      flight = same_bytes plan.flight old.flight (not-false (bytes_eq plan.flight old.flight) first.0);
      kind = same_kind plan.kind old.kind (not-false (is_same_kind plan.kind old.kind) first.1);
      tail = same_tail (in_flight phase) plan.tail old.tail others.1;
      flown_legs = unchanged 1 k old.legs plan.legs none.0 (length-take-le k old.legs (flown_within phase old.legs fits));
      remains = remains (in_flight phase) (k + 1) k (slice_get old.legs k) (slice_get plan.legs k) plan.legs refl none.1;
      departed = departed (in_flight phase) (k + 1) (slice_get old.legs k) (slice_get plan.legs k) none.1;
    }

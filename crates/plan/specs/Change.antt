-- What an amendment may change of a plan, by the phase of its release.
use Rattle.std.specs.Prelude.{◌≡◌, ℕ, ◌+◌, ◌<◌, ◌==◌, Bool, true, false, not, ◌&&◌, ◌||◌, if◌then◌else◌, List, [], ◌∷◌, length, take, Option, None, Some, is_some, IfSome}
use Rattle.std.specs.List.{slice_get}
use Rattle.std.specs.Option.{option_map}
use Rattle.std.specs.Str.{bytes_eq}
use Rattle.plan.specs.Check.{is_at}
use Rattle.plan.specs.Phases.{in_flight, flown}
use Rattle.plan.specs.declared.check.BadPlan.{BadPlan}
use Rattle.plan.specs.declared.check.PlanWhy.TheVariants as why
use Rattle.plan.specs.declared.flights.Alternate.{Alternate}
use Rattle.plan.specs.declared.flights.Kind.{Kind}
use Rattle.plan.specs.declared.flights.Kind.TheVariants.{Domestic, Flag}
use Rattle.plan.specs.declared.flights.Leg.{Leg}
use Rattle.plan.specs.declared.flights.Plan.{Plan}
use Rattle.plan.specs.declared.flights.TakeoffAlternate.{TakeoffAlternate}
use Rattle.plan.specs.declared.release.Phase.{Phase}
use Rattle.desk_time.specs.Digits.{or_else}

abbrev pub is_same_takeoff : Option TakeoffAlternate → Option TakeoffAlternate → Bool
is_same_takeoff None None = true
is_same_takeoff None (Some b) = false
is_same_takeoff (Some a) None = false
is_same_takeoff (Some a) (Some b) = is_at a.station b.station && (a.minutes == b.minutes)

abbrev pub is_same_alternate : Alternate → Alternate → Bool
is_same_alternate a b = is_at a.station b.station && (a.minutes == b.minutes) && (a.fuel == b.fuel)

-- the same alternates in the same order
abbrev pub are_same_alternates : List Alternate → List Alternate → Bool
are_same_alternates [] [] = true
are_same_alternates [] (b ∷ ys) = false
are_same_alternates (a ∷ xs) [] = false
are_same_alternates (a ∷ xs) (b ∷ ys) = is_same_alternate a b && are_same_alternates xs ys

abbrev pub has_same_ends : Leg → Leg → Bool
has_same_ends a b = is_at a.from b.from && is_at a.to b.to

abbrev pub has_same_times : Leg → Leg → Bool
has_same_times a b = (a.etd == b.etd) && (a.eta == b.eta) && (a.minutes == b.minutes)

abbrev pub has_same_fuel : Leg → Leg → Bool
has_same_fuel a b = (a.burn == b.burn) && (a.extra == b.extra) && (a.minimum == b.minimum) && (a.onboard == b.onboard)

abbrev pub has_same_alternates : Leg → Leg → Bool
has_same_alternates a b = is_same_takeoff a.takeoff_alternate b.takeoff_alternate && are_same_alternates a.alternates b.alternates

-- the legs agree in everything
abbrev pub is_same_leg : Leg → Leg → Bool
is_same_leg a b = has_same_ends a b && has_same_times a b && has_same_fuel a b && has_same_alternates a b

-- the legs have the same departure, ETD and takeoff alternate
abbrev pub departs_alike : Leg → Leg → Bool
departs_alike a b = is_at a.from b.from && (a.etd == b.etd) && is_same_takeoff a.takeoff_alternate b.takeoff_alternate

-- the number of the first flown leg that the plan changes or omits, if the first leg has number n
abbrev pub first_changed : ℕ → List Leg → List Leg → Option ℕ
first_changed n [] legs = None
first_changed n (o ∷ os) [] = Some n
first_changed n (o ∷ os) (l ∷ ls) = if is_same_leg o l then first_changed (n + 1) os ls else Some n

-- the leg in flight, number n, has another departure, ETD or takeoff alternate
abbrev pub departed_otherwise : Option ℕ → ℕ → Option Leg → Leg → Option ℕ
departed_otherwise None n old leg = None
departed_otherwise (Some f) n None leg = Some n
departed_otherwise (Some f) n (Some o) leg = if departs_alike o leg then None else Some n

-- the plan has no leg n, or leg n is in flight and departs otherwise
abbrev pub next_fault : Option ℕ → ℕ → Option Leg → Option Leg → Option ℕ
next_fault in_flight n old None = Some n
next_fault in_flight n old (Some leg) = departed_otherwise in_flight n old leg

-- The first leg that may not be as it is: a flown leg that changed, or the one after the flown legs.
abbrev pub flown_fault : Phase → List Leg → List Leg → Option ℕ
flown_fault phase old legs =
    or_else (first_changed 1 (take (flown phase old) old) legs) (next_fault (in_flight phase) (flown phase old + 1) (slice_get old (flown phase old)) (slice_get legs (flown phase old)))

abbrev pub is_same_kind : Kind → Kind → Bool
is_same_kind Domestic Domestic = true
is_same_kind Domestic Flag = false
is_same_kind Flag Domestic = false
is_same_kind Flag Flag = true

-- the flight number or the kind changed, or the aircraft changed in flight
abbrev pub is_changed : Phase → Plan → Plan → Bool
is_changed phase plan old =
    not (bytes_eq plan.flight old.flight) || not (is_same_kind plan.kind old.kind) || (is_some (in_flight phase) && not (bytes_eq plan.tail old.tail))

abbrev pub flown_at : ℕ → BadPlan
flown_at n = record { leg = n; why = why.Flown }

-- The first test that an amendment of the plan `old` fails in this phase.
unfoldable pub change_fault : Plan → Plan → Phase → Option BadPlan
change_fault plan old phase =
    if is_changed phase plan old then Some (record { leg = 0; why = why.Changed }) else option_map flown_at (flown_fault phase old.legs plan.legs)

-- the leg in flight keeps its airport of departure, its ETD and its takeoff alternate
pub record DepartsAlike (old leg : Leg) : Type 0 where
  pub from : leg.from ≡ old.from
  pub etd : leg.etd ≡ old.etd
  pub takeoff : leg.takeoff_alternate ≡ old.takeoff_alternate

abbrev pub BothDepartAlike : Option Leg → Option Leg → Type 0
BothDepartAlike None leg = ⊥
BothDepartAlike (Some old) None = ⊥
BothDepartAlike (Some old) (Some leg) = DepartsAlike old leg

-- A plan that may amend another. The flight number, the kind and, in flight, the aircraft stay. Flown legs stay, and
-- another leg remains. The leg in flight keeps its departure.
pub record MayFollow (plan old : Plan) (phase : Phase) : Type 0 where
  pub flight : plan.flight ≡ old.flight
  pub kind : plan.kind ≡ old.kind
  pub tail : IfSome (in_flight phase) (λ leg. plan.tail ≡ old.tail)
  pub flown_legs : take (flown phase old.legs) plan.legs ≡ take (flown phase old.legs) old.legs
  pub remains : flown phase old.legs < length plan.legs
  pub departed : IfSome (in_flight phase) (λ leg. BothDepartAlike (slice_get old.legs (flown phase old.legs)) (slice_get plan.legs (flown phase old.legs)))

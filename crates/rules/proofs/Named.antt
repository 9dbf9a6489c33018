-- A plan names the stations of its legs that aren't flown, and no others.
use Rattle.std.proofs.Common.{◌≡◌, inl, inr, ℕ, ◌+◌, ◌≤◌, ◌==◌, Bool, true, false, cond, ◌||◌, List, [], ◌∷◌, Option, None, Some, refl, sym, ap, subst, eq-eqb, arith, ◌∙◌}
use Rattle.std.specs.Prelude.{Any}
use Rattle.std.specs.Str.{bytes_eq}
use Rattle.std.proofs.lemmas.Bool.{ne_eqb, eqb-true, or_left, or_right, or_cases}
use Rattle.std.proofs.lemmas.Slice.Eq.{bytes_eq-Decides}
use Rattle.desk_io.specs.Station.{Station}
use Rattle.plan.specs.Phases.{standing}
use Rattle.plan.specs.declared.flights.Alternate.{Alternate}
use Rattle.plan.specs.declared.flights.Leg.{Leg}
use Rattle.plan.specs.declared.flights.Plan.{Plan}
use Rattle.plan.specs.declared.flights.TakeoffAlternate.{TakeoffAlternate}
use Rattle.plan.specs.declared.release.Phase.{Phase}
use Rattle.plan.specs.declared.release.Standing.{Standing}
use Rattle.plan.specs.declared.release.Standing.TheVariants.{Ahead, InFlight, Flown}
use Rattle.rules.specs.Judgement.{leg_numbered}
use Rattle.rules.specs.Touches.{is_takeoff_alternate, lists_station, leg_names, names_at, legs_name, names_station, IsOf, departure, destination, takeoff_alternate, alternate, Names}
use Rattle.rules.proofs.Tells.{Tells, told, tested, tells_by, tells_any}

pub same_station : (a b : Station) → bytes_eq a b ≡ true → a ≡ b
same_station a b e = (bytes_eq-Decides a b).0 e

pub station_same : (a b : Station) → a ≡ b → bytes_eq a b ≡ true
station_same a b e = (bytes_eq-Decides a b).1 e

-- One leg

lists_tells : (station : Station) (listed : List Alternate) → Tells (lists_station station listed) (Any (λ it. it.station ≡ station) listed)
lists_tells station listed =
    tells_any (λ it. bytes_eq it.station station) (λ it. it.station ≡ station)
    (λ it. tells_by (bytes_eq it.station station) (it.station ≡ station) (same_station it.station station) (station_same it.station station)) listed

of_takeoff : (station : Station) (leg : Leg) (it : Option TakeoffAlternate) → leg.takeoff_alternate ≡ it → is_takeoff_alternate station it ≡ true → IsOf leg station
of_takeoff station leg None is e = absurd (cc)
of_takeoff station leg (Some it) is e = takeoff_alternate it is (same_station it.station station e)

leg_has : (station : Station) (leg : Leg) → leg_names station leg ≡ true → IsOf leg station
leg_has station leg e =
    elim (or_cases (bytes_eq leg.from station || bytes_eq leg.to station || is_takeoff_alternate station leg.takeoff_alternate) (lists_station station leg.alternates) e) [
      | inl three ↦ elim (or_cases (bytes_eq leg.from station || bytes_eq leg.to station) (is_takeoff_alternate station leg.takeoff_alternate) three) [
        | inl two ↦ elim (or_cases (bytes_eq leg.from station) (bytes_eq leg.to station) two) [
          | inl from ↦ departure (same_station leg.from station from)
          | inr to ↦ destination (same_station leg.to station to)
        ]
        | inr it ↦ of_takeoff station leg leg.takeoff_alternate refl it
      ]
      | inr listed ↦ alternate (told (lists_station station leg.alternates) (Any (λ it. it.station ≡ station) leg.alternates) (lists_tells station leg.alternates) listed)
    ]

module _ (station : Station) (leg : Leg) where
  pub first_named : bytes_eq leg.from station ≡ true → leg_names station leg ≡ true
  first_named e = or_left _ _ (or_left _ _ (or_left _ _ e))

  pub second_named : bytes_eq leg.to station ≡ true → leg_names station leg ≡ true
  second_named e = or_left _ _ (or_left _ _ (or_right _ _ e))

  pub third_named : is_takeoff_alternate station leg.takeoff_alternate ≡ true → leg_names station leg ≡ true
  third_named e = or_left _ _ (or_right _ _ e)

  pub listed_named : lists_station station leg.alternates ≡ true → leg_names station leg ≡ true
  listed_named e = or_right _ _ e

has_named : (station : Station) (leg : Leg) → IsOf leg station → leg_names station leg ≡ true
has_named station leg (departure is) = first_named station leg (station_same leg.from station is)
has_named station leg (destination is) = second_named station leg (station_same leg.to station is)
has_named station leg (takeoff_alternate it listed is) =
    third_named station leg (ap (λ o. is_takeoff_alternate station o) listed ∙ station_same it.station station is)
has_named station leg (alternate any) =
    listed_named station leg (tested (lists_station station leg.alternates) (Any (λ it. it.station ≡ station) leg.alternates) (lists_tells station leg.alternates) any)

-- By where it stands

never_flown : (s : Standing) (station : Station) (leg : Leg) → names_at s station leg ≡ true → s ≡ Flown → ⊥
never_flown Ahead station leg named is = absurd (cc)
never_flown InFlight station leg named is = absurd (cc)
never_flown Flown station leg named is = absurd (cc)

has_at : (s : Standing) (station : Station) (leg : Leg) → names_at s station leg ≡ true → IsOf leg station
has_at Ahead station leg named = leg_has station leg named
has_at InFlight station leg named = leg_has station leg named
has_at Flown station leg named = absurd (cc)

named_at : (s : Standing) (station : Station) (leg : Leg) → (s ≡ Flown → ⊥) → IsOf leg station → names_at s station leg ≡ true
named_at Ahead station leg still has = has_named station leg has
named_at InFlight station leg still has = has_named station leg has
named_at Flown station leg still has = absurd (still refl)

-- Legs

module _ (phase : Phase) (station : Station) where
  legs_named_by : (b : Bool) (number n : ℕ) (leg at : Leg) (legs : List Leg) (later : Option Leg) → (number == n) ≡ b → (later ≡ Some at → legs_name phase station (n + 1) legs ≡ true)
      → cond b (Some leg) later ≡ Some at → names_at (standing phase number) station at ≡ true → names_at (standing phase n) station leg || legs_name phase station (n + 1) legs ≡ true
  legs_named_by true number n leg at legs later e rest stands named =
      let same : number ≡ n = eqb-true number n e in
      let one : leg ≡ at = grind (arith, stands) in
      or_left _ _ (subst (λ m. names_at (standing phase m) station leg ≡ true) same (subst (λ l. names_at (standing phase number) station l ≡ true) (sym one) named))
  legs_named_by false number n leg at legs later e rest stands named = or_right _ _ (rest stands)

  legs_named : (number n : ℕ) (at : Leg) (legs : List Leg) → leg_numbered number n legs ≡ Some at → names_at (standing phase number) station at ≡ true → legs_name phase station n legs ≡ true
  legs_named number n at [] stands named = absurd (cc)
  legs_named number n at (leg ∷ legs) stands named =
      legs_named_by (number == n) number n leg at legs (leg_numbered number (n + 1) legs) refl (λ later. legs_named number (n + 1) at legs later named) stands named

  -- a leg that is named, of a number at or after that of the first of some legs
  record NamedFrom (first : ℕ) (legs : List Leg) : Type 0 where
    pub number : ℕ
    pub leg : Leg
    pub least : first ≤ number
    pub stands : leg_numbered number first legs ≡ Some leg
    pub named : names_at (standing phase number) station leg ≡ true

  named_from : (n : ℕ) (legs : List Leg) → legs_name phase station n legs ≡ true → NamedFrom n legs
  named_from n [] e = absurd (cc)
  named_from n (leg ∷ legs) e = elim (or_cases (names_at (standing phase n) station leg) (legs_name phase station (n + 1) legs) e) [
    | inl here ↦ record { number = n; leg = leg; least = omega arith; stands = rw (eq-eqb n n refl) refl; named = here }
    | inr later ↦ there n leg legs (named_from (n + 1) legs later)
  ]
    where
      there : (n : ℕ) (leg : Leg) (legs : List Leg) → NamedFrom (n + 1) legs → NamedFrom n (leg ∷ legs)
      there n leg legs one = record {
        number = one.number;
        leg = one.leg;
        least = let l = one.least in omega (arith, l);
        stands = let ne : one.number ≡ n → ⊥ = λ e. absurd (let l = one.least in omega (arith, e, l)) in rw (ne_eqb one.number n ne) one.stands;
        named = one.named;
      }

-- a plan names what a leg of it names where it stands
pub plan_names : (plan : Plan) (phase : Phase) (station : Station) (number : ℕ) (leg : Leg) → leg_numbered number 1 plan.legs ≡ Some leg → names_at (standing phase number) station leg ≡ true
    → names_station plan phase station ≡ true
unfolding names_station
plan_names plan phase station number leg stands named = legs_named phase station number 1 leg plan.legs stands named

pub names_there : (plan : Plan) (phase : Phase) (station : Station) → names_station plan phase station ≡ true → Names plan phase station
unfolding names_station
names_there plan phase station e =
    let one = named_from phase station 1 plan.legs e in
    record {
      number = one.number;
      leg = one.leg;
      stands = one.stands;
      not_flown = never_flown (standing phase one.number) station one.leg one.named;
      is_of = has_at (standing phase one.number) station one.leg one.named;
    }

pub there_names : (plan : Plan) (phase : Phase) (station : Station) → Names plan phase station → names_station plan phase station ≡ true
there_names plan phase station one =
    plan_names plan phase station one.number one.leg one.stands (named_at (standing phase one.number) station one.leg one.not_flown one.is_of)

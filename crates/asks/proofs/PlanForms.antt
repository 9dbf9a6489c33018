-- The fields of a plan that is read have their forms.
use Rattle.std.proofs.Common.{◌≡◌, ℕ, ◌≤◌, true, List, [], ◌∷◌, length, Option, Some, IfSome, codes, arith, option_and_then, is_some, nat_le, leb-true}
use Rattle.std.specs.List.{AllByRecursion}
use Rattle.serde_json.specs.Data.{Data, Items, no_items, item}
use Rattle.serde_json.specs.Events.{items_len}
use Rattle.serde_json.specs.Find.{get, as_null, as_number, as_u64}
use Rattle.desk_time.specs.Moments.{minute_of, up_to}
use Rattle.desk_io.specs.Station.{Station, is_station, station_of}
use Rattle.plan.specs.Check.{HasMoments, IsPlan}
use Rattle.desk_time.specs.Limits.{IsMoment}
use Rattle.plan.specs.declared.flights.Kind.{Kind}
use Rattle.plan.specs.declared.flights.Leg.{Leg}
use Rattle.plan.specs.declared.flights.Plan.{Plan}
use Rattle.asks.specs.declared.legs.Route.{Route}
use Rattle.asks.specs.declared.legs.Times.{Times}
use Rattle.asks.specs.declared.legs.Fuel.{Fuel}
use Rattle.asks.specs.declared.plans.Form.{Form}
use Rattle.asks.specs.declared.plans.Form.TheVariants.{Flight, Tail, Captain}
use Rattle.asks.specs.Forms.{IsAmount, IsId, IsAlternate, IsTakeoff, MayBeTakeoff, IsLeg, HasForms}
use Rattle.asks.specs.Fields.{text_at, number_at, amount_at, id_at, station_at, moment_at, list_at, each_read, has_members}
use Rattle.asks.specs.Legs.{alternate_of, alternates_at, takeoff_of, takeoff_in, takeoff_at, route_of, times_of, fuel_of, leg_of_parts, leg_of, legs_of, legs_at}
use Rattle.asks.specs.Plans.{has_form, formed, name_at, kind_at, named_plan, plan_of}
use Rattle.desk_time.proofs.Chains.{bind_if, bind_any, then_if, under, either, both_held}
use Rattle.asks.proofs.MomentRange.{minute_within}
use Rattle.std.proofs.lemmas.Option.{IfSome_then}
use Rattle.asks.proofs.Lists.{as_many}

-- ---- fields

pub number_formed : (key : List ℕ) (limit : ℕ) (d : Data) → IfSome (number_at key limit d) (λ n. n ≤ limit)
number_formed key limit d =
    then_if (up_to limit) (option_and_then as_u64 (option_and_then as_number (get key d))) (λ n. n ≤ limit) (λ n. under (nat_le n limit) (Some n) (λ n. n ≤ limit) (leb-true n limit))

pub amount_formed : (key : List ℕ) (d : Data) → IfSome (amount_at key d) IsAmount
amount_formed key d = number_formed key 4_294_967_295 d

pub id_formed : (key : List ℕ) (d : Data) → IfSome (id_at key d) IsId
id_formed key d = number_formed key 1_000_000_000_000_000 d

abbrev pub IsAirport : Station → Type 0
IsAirport s = is_station s ≡ true

pub station_formed : (key : List ℕ) (d : Data) → IfSome (station_at key d) IsAirport
station_formed key d = then_if station_of (text_at key d) IsAirport (λ t. under (is_station t) (Some t) IsAirport (λ is. is))

pub moment_formed : (key : List ℕ) (d : Data) → IfSome (moment_at key d) IsMoment
moment_formed key d = then_if minute_of (text_at key d) IsMoment minute_within

pub name_formed : (key : List ℕ) (form : Form) (d : Data) → IfSome (name_at key form d) (λ t. has_form form t ≡ true)
name_formed key form d =
    then_if (formed form) (text_at key d) (λ t. has_form form t ≡ true) (λ t. under (has_form form t) (Some t) (λ t. has_form form t ≡ true) (λ is. is))

-- each item that is read has what each one read has
pub each_formed : {A : Type 0} (P : A → Type 0) (read_one : Data → Option A) → ((d : Data) → IfSome (read_one d) P) → (ds : Items) → IfSome (each_read read_one ds) (AllByRecursion P)
each_formed P read_one one no_items = tt
each_formed P read_one one (item d ds) =
    bind_if (read_one d) _ P (AllByRecursion P) (one d) (λ x is. bind_if (each_read read_one ds) _ (AllByRecursion P) (AllByRecursion P) (each_formed P read_one one ds) (λ xs all. (is, all)))

-- ---- legs

alternate_formed : (d : Data) → IfSome (alternate_of d) IsAlternate
alternate_formed d =
    bind_if (amount_at (codes "fuel") d) _ IsAmount IsAlternate (amount_formed (codes "fuel") d) (λ fuel is_fuel.
    bind_if (amount_at (codes "minutes") d) _ IsAmount IsAlternate (amount_formed (codes "minutes") d) (λ minutes is_minutes.
    bind_if (station_at (codes "station") d) _ IsAirport IsAlternate (station_formed (codes "station") d) (λ station is_station.
    under (has_members 3 d) _ IsAlternate (λ exact. record { station = is_station; minutes = is_minutes; fuel = is_fuel }))))

alternates_formed : (d : Data) → IfSome (alternates_at d) (AllByRecursion IsAlternate)
alternates_formed d = bind_any (list_at (codes "alternates") d) _ (AllByRecursion IsAlternate) (λ ds. each_formed IsAlternate alternate_of alternate_formed ds)

takeoff_formed : (d : Data) → IfSome (takeoff_of d) IsTakeoff
takeoff_formed d =
    bind_if (amount_at (codes "minutes") d) _ IsAmount IsTakeoff (amount_formed (codes "minutes") d) (λ minutes is_minutes.
    bind_if (station_at (codes "station") d) _ IsAirport IsTakeoff (station_formed (codes "station") d) (λ station is_station.
    under (has_members 2 d) _ IsTakeoff (λ exact. record { station = is_station; minutes = is_minutes })))

takeoff_in_formed : (d : Data) → IfSome (takeoff_in d) MayBeTakeoff
takeoff_in_formed d = either (is_some (as_null d)) _ _ MayBeTakeoff tt (bind_if (takeoff_of d) _ IsTakeoff MayBeTakeoff (takeoff_formed d) (λ t is. is))

takeoff_at_formed : (d : Data) → IfSome (takeoff_at d) MayBeTakeoff
takeoff_at_formed d = then_if takeoff_in (get (codes "takeoff_alternate") d) MayBeTakeoff takeoff_in_formed

record IsRoute (r : Route) : Type 0 where
  departure : is_station r.from ≡ true
  destination : is_station r.to ≡ true

route_formed : (d : Data) → IfSome (route_of d) IsRoute
route_formed d =
    bind_if (station_at (codes "from") d) _ IsAirport IsRoute (station_formed (codes "from") d) (λ from is_from.
    bind_if (station_at (codes "to") d) _ IsAirport IsRoute (station_formed (codes "to") d) (λ to is_to. record { departure = is_from; destination = is_to }))

record AreTimes (t : Times) : Type 0 where
  departs : IsMoment t.etd
  arrives : IsMoment t.eta
  lasts : IsAmount t.minutes

times_formed : (d : Data) → IfSome (times_of d) AreTimes
times_formed d =
    bind_if (moment_at (codes "etd") d) _ IsMoment AreTimes (moment_formed (codes "etd") d) (λ etd is_etd.
    bind_if (moment_at (codes "eta") d) _ IsMoment AreTimes (moment_formed (codes "eta") d) (λ eta is_eta.
    bind_if (amount_at (codes "minutes") d) _ IsAmount AreTimes (amount_formed (codes "minutes") d) (λ minutes is_minutes.
    record { departs = is_etd; arrives = is_eta; lasts = is_minutes })))

record IsFuel (f : Fuel) : Type 0 where
  burned : IsAmount f.burn
  added : IsAmount f.extra
  least : IsAmount f.minimum
  aboard : IsAmount f.onboard

fuel_formed : (d : Data) → IfSome (fuel_of d) IsFuel
fuel_formed d =
    bind_if (amount_at (codes "burn") d) _ IsAmount IsFuel (amount_formed (codes "burn") d) (λ burn is_burn.
    bind_if (amount_at (codes "extra") d) _ IsAmount IsFuel (amount_formed (codes "extra") d) (λ extra is_extra.
    bind_if (amount_at (codes "minimum") d) _ IsAmount IsFuel (amount_formed (codes "minimum") d) (λ minimum is_minimum.
    bind_if (amount_at (codes "onboard") d) _ IsAmount IsFuel (amount_formed (codes "onboard") d) (λ onboard is_onboard.
    record { burned = is_burn; added = is_extra; least = is_minimum; aboard = is_onboard }))))

parts_formed : (d : Data) (r : Route) (t : Times) (f : Fuel) → IsRoute r → AreTimes t → IsFuel f → IfSome (leg_of_parts d r t f) IsLeg
parts_formed d r t f is_route are_times is_fuel =
    bind_if (takeoff_at d) _ MayBeTakeoff IsLeg (takeoff_at_formed d) (λ takeoff may_be.
    bind_if (alternates_at d) _ (AllByRecursion IsAlternate) IsLeg (alternates_formed d) (λ alternates all.
    under (has_members 11 d) _ IsLeg (λ exact. record {
      from = is_route.departure;
      to = is_route.destination;
      etd = are_times.departs;
      eta = are_times.arrives;
      minutes = are_times.lasts;
      burn = is_fuel.burned;
      extra = is_fuel.added;
      minimum = is_fuel.least;
      onboard = is_fuel.aboard;
      takeoff = may_be;
      alternates = all;
    })))

leg_formed : (d : Data) → IfSome (leg_of d) IsLeg
leg_formed d =
    bind_if (route_of d) _ IsRoute IsLeg (route_formed d) (λ r is_route.
    bind_if (times_of d) _ AreTimes IsLeg (times_formed d) (λ t are_times.
    bind_if (fuel_of d) _ IsFuel IsLeg (fuel_formed d) (λ f is_fuel. parts_formed d r t f is_route are_times is_fuel)))

record AreLegs (legs : List Leg) : Type 0 where
  few : length legs ≤ 1000
  all : AllByRecursion IsLeg legs

counted : (ds : Items) (legs : List Leg) → items_len ds ≤ 1000 → (length legs ≡ items_len ds) × AllByRecursion IsLeg legs → AreLegs legs
counted ds legs few both_held = record { few = omega (arith, both_held.0); all = both_held.1 }

legs_formed : (ds : Items) → IfSome (legs_of ds) AreLegs
legs_formed ds = under (nat_le (items_len ds) 1000) (each_read leg_of ds) AreLegs (λ is. IfSome_then (each_read leg_of ds) (both_held (each_read leg_of ds) _ (AllByRecursion IsLeg) (as_many leg_of ds) (each_formed IsLeg leg_of leg_formed ds)) (λ legs. counted ds legs (leb-true (items_len ds) 1000 is)))

legs_at_formed : (d : Data) → IfSome (legs_at d) AreLegs
legs_at_formed d = bind_any (list_at (codes "legs") d) _ AreLegs legs_formed

-- ---- plans

named_formed : (d : Data) (kind : Kind) (legs : List Leg) → AreLegs legs → IfSome (named_plan d kind legs) HasForms
named_formed d kind legs are =
    bind_if (name_at (codes "flight") Flight d) _ (λ t. has_form Flight t ≡ true) HasForms (name_formed (codes "flight") Flight d) (λ flight is_flight.
    bind_if (name_at (codes "tail") Tail d) _ (λ t. has_form Tail t ≡ true) HasForms (name_formed (codes "tail") Tail d) (λ tail is_tail.
    bind_if (name_at (codes "captain") Captain d) _ (λ t. has_form Captain t ≡ true) HasForms (name_formed (codes "captain") Captain d) (λ captain is_captain.
    under (has_members 5 d) _ HasForms (λ exact. record { flight = is_flight; tail = is_tail; captain = is_captain; few = are.few; legs = are.all }))))

pub plan_formed : (d : Data) → IfSome (plan_of d) HasForms
unfolding plan_of
plan_formed d = bind_any (kind_at d) _ HasForms (λ kind. bind_if (legs_at d) _ AreLegs HasForms (legs_at_formed d) (λ legs are. named_formed d kind legs are))

legs_have_moments : (legs : List Leg) → AllByRecursion IsLeg legs → AllByRecursion HasMoments legs
legs_have_moments [] all = tt
legs_have_moments (l ∷ ls) all = ((let one = all.0 in one.etd, let one = all.0 in one.eta), legs_have_moments ls all.1)

-- the text of such a plan can be made
pub plan_from_forms : (p : Plan) → HasForms p → IsPlan p
plan_from_forms p is = record { few = is.few; moments = legs_have_moments p.legs is.legs }

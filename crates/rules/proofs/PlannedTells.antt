-- What the tests of a plan tell of it, in words.
use Rattle.std.proofs.Common.{◌≡◌, ◌≢◌, ℕ, suc, ◌-◌, ◌<◌, ◌≤◌, Bool, true, false, not, ◌&&◌, ◌||◌, if◌then◌else◌, List, [], ◌∷◌, length, Option, None, Some, refl, subst, arith}
use Rattle.std.specs.Prelude.{nat_le, nat_lt, is_none, is_some}
use Rattle.std.specs.List.{All, AllPairs, list_all, list_any}
use Rattle.std.specs.Str.{bytes_eq}
use Rattle.std.proofs.lemmas.List.Elements.{All-nil, All-cons, All-head, All-tail}
use Rattle.std.proofs.lemmas.List.Kept.{AllPairs-cons}
use Rattle.desk_time.specs.Limits.{first_planned, last_planned}
use Rattle.desk_io.specs.Station.{Station}
use Rattle.ops_tables.specs.declared.rows.Tail.{Tail}
use Rattle.ops_tables.specs.Tables.{TableRows, tail_named, has_airport, has_captain}
use Rattle.plan.specs.declared.flights.Plan.{Plan}
use Rattle.plan.specs.declared.flights.Leg.{Leg}
use Rattle.plan.specs.declared.flights.Alternate.{Alternate}
use Rattle.plan.specs.declared.flights.TakeoffAlternate.{TakeoffAlternate}
use Rattle.plan.specs.declared.check.PlanWhy.{PlanWhy}
use Rattle.plan.specs.declared.check.PlanWhy.TheVariants.{UnknownTail, UnknownCaptain, Count, NoAirport, Repeated, Unjoined, Times, Amount}
use Rattle.plan.specs.Check.{has_legs, is_at, is_alternate_at, repeats, is_takeoff_at, is_repeated, is_takeoff_airport, has_airports, has_few_alternates, joins, is_planned, follows, is_near, is_takeoff_near, has_moments, has_minutes, are_near, has_times, is_amount, are_amounts, has_amounts, flight_fault, leg_fault, whole_fault}
use Rattle.rules.specs.Planned.{IsOfAirline, HasAirports, Continues, IsPlannable, IsReached, HasTimes, HasAmounts, MayFollow}
use Rattle.rules.proofs.Named.{same_station, station_same}
use Rattle.rules.proofs.Tells.{Tells, tells_by, tells_same, tells_not, tells_and, tells_neither, tells_le, tells_lt, tells_true, tells_each}

-- ---- tests in turn

-- a test that must hold, before others
tells_then : (b : Bool) (why : PlanWhy) (rest : Option PlanWhy) (P Q : Type 0) → Tells b P → Tells (is_none rest) Q → Tells (is_none (if not b then Some why else rest)) (P × Q)
tells_then true why rest P Q p q = tells_same (is_none rest) Q (P × Q) (λ x. (p, x)) (λ both. both.1) q
tells_then false why rest P Q p q = λ both. p both.0

-- a test that mustn't
tells_else : (b : Bool) (why : PlanWhy) (rest : Option PlanWhy) (P Q : Type 0) → Tells (not b) P → Tells (is_none rest) Q → Tells (is_none (if b then Some why else rest)) (P × Q)
tells_else true why rest P Q p q = λ both. p both.0
tells_else false why rest P Q p q = tells_same (is_none rest) Q (P × Q) (λ x. (p, x)) (λ both. both.1) q

tells_all : {A : Type 0} (p : A → Bool) (P : A → Type 0) → ((a : A) → Tells (p a) (P a)) → (xs : List A) → Tells (list_all p xs) (All P xs)
tells_all p P tells [] = All-nil P
tells_all p P tells (a ∷ xs) =
    tells_same (p a && list_all p xs) (P a × All P xs) (All P (a ∷ xs))
    (λ both. All-cons P a xs both.0 both.1) (λ all. (All-head P a xs all, All-tail P a xs all))
    (tells_and (p a) (list_all p xs) (P a) (All P xs) (tells a) (tells_all p P tells xs))

-- of a takeoff alternate, if one is listed
tells_listed : (t : TakeoffAlternate) (b : Bool) (P : TakeoffAlternate → Type 0) → Tells b (P t) → Tells b ((it : TakeoffAlternate) → Some t ≡ Some it → P it)
tells_listed t b P tells = tells_same b (P t) ((it : TakeoffAlternate) → Some t ≡ Some it → P it) (λ p it is. let same : t ≡ it = cc in subst P same p) (λ each. each t refl) tells

-- ---- airports

at_tells : (a b : Station) → Tells (is_at a b) (a ≡ b)
at_tells a b = tells_by (bytes_eq a b) (a ≡ b) (same_station a b) (station_same a b)

not_at_tells : (a b : Station) → Tells (not (is_at a b)) (a ≢ b)
not_at_tells a b = tells_not (is_at a b) (a ≡ b) (at_tells a b)

takeoff_airport_tells : (tables : TableRows) (o : Option TakeoffAlternate) → Tells (is_takeoff_airport tables o) ((it : TakeoffAlternate) → o ≡ Some it → has_airport tables it.station ≡ true)
takeoff_airport_tells tables None = λ it is. absurd (cc)
takeoff_airport_tells tables (Some t) = tells_listed t (has_airport tables t.station) (λ it. has_airport tables it.station ≡ true) (tells_true (has_airport tables t.station))

airports_tell : (tables : TableRows) (l : Leg) → Tells (has_airports tables l) (HasAirports tables l)
airports_tell tables l =
    let T : Type 0 = (it : TakeoffAlternate) → l.takeoff_alternate ≡ Some it → has_airport tables it.station ≡ true in
    let P : Alternate → Type 0 = λ it. has_airport tables it.station ≡ true in
    let from : Bool = has_airport tables l.from in
    let to : Bool = has_airport tables l.to in
    let takeoff : Bool = is_takeoff_airport tables l.takeoff_alternate in
    let each : Bool = list_all (λ a. has_airport tables a.station) l.alternates in
    tells_same (from && to && takeoff && each) ((((from ≡ true) × (to ≡ true)) × T) × All P l.alternates) (HasAirports tables l)
    (λ is. record { departure = is.0.0.0; destination = is.0.0.1; takeoff = is.0.1; alternates = is.1 })
    (λ has. (((has.departure, has.destination), has.takeoff), has.alternates))
    (tells_and (from && to && takeoff) each (((from ≡ true) × (to ≡ true)) × T) (All P l.alternates)
    (tells_and (from && to) takeoff ((from ≡ true) × (to ≡ true)) T (tells_and from to (from ≡ true) (to ≡ true) (tells_true from) (tells_true to))
    (takeoff_airport_tells tables l.takeoff_alternate))
    (tells_all (λ (a : Alternate). has_airport tables a.station) P (λ a. tells_true (has_airport tables a.station)) l.alternates))

takeoff_at_tells : (s : Station) (o : Option TakeoffAlternate) → Tells (not (is_takeoff_at s o)) ((it : TakeoffAlternate) → o ≡ Some it → it.station ≢ s)
takeoff_at_tells s None = λ it is. absurd (cc)
takeoff_at_tells s (Some t) = tells_listed t (not (is_at t.station s)) (λ it. it.station ≢ s) (not_at_tells t.station s)

none_at_tells : (s : Station) (alternates : List Alternate) → Tells (not (list_any (is_alternate_at s) alternates)) (All (λ it. it.station ≢ s) alternates)
none_at_tells s alternates = tells_each (is_alternate_at s) (λ it. it.station ≢ s) (λ a. not_at_tells a.station s) alternates

-- no station of an alternate comes again
abbrev Differ : Alternate → Alternate → Type 0
Differ earlier later = later.station ≢ earlier.station

first_of_pairs : (a : Alternate) (rest : List Alternate) → AllPairs Differ (a ∷ rest) → All (Differ a) rest
first_of_pairs a rest all k d within = all 0 (suc k) d (omega arith) (omega (arith, within))

later_pairs : (a : Alternate) (rest : List Alternate) → AllPairs Differ (a ∷ rest) → AllPairs Differ rest
later_pairs a rest all i j d before within = all (suc i) (suc j) d (omega (arith, before)) (omega (arith, within))

repeats_tell : (alternates : List Alternate) → Tells (not (repeats alternates)) (AllPairs Differ alternates)
repeats_tell [] = λ i j d before within. absurd (omega (arith, before, within))
repeats_tell (a ∷ rest) =
    let again : Bool = list_any (is_alternate_at a.station) rest in
    tells_same (not (again || repeats rest)) (All (Differ a) rest × AllPairs Differ rest) (AllPairs Differ (a ∷ rest))
    (λ both. AllPairs-cons Differ a rest both.0 both.1) (λ all. (first_of_pairs a rest all, later_pairs a rest all))
    (tells_neither again (repeats rest) (All (Differ a) rest) (AllPairs Differ rest) (none_at_tells a.station rest) (repeats_tell rest))

-- that an airport comes again on a leg
abbrev OncePerLeg : Leg → Type 0
OncePerLeg l =
    (((l.from ≢ l.to) × ((it : TakeoffAlternate) → l.takeoff_alternate ≡ Some it → it.station ≢ l.from)) × All (λ it. it.station ≢ l.to) l.alternates) × AllPairs Differ l.alternates

repeated_tells : (l : Leg) → Tells (not (is_repeated l)) (OncePerLeg l)
repeated_tells l =
    let A : Type 0 = l.from ≢ l.to in
    let B : Type 0 = (it : TakeoffAlternate) → l.takeoff_alternate ≡ Some it → it.station ≢ l.from in
    let C : Type 0 = All (λ it. it.station ≢ l.to) l.alternates in
    let a : Bool = is_at l.from l.to in
    let b : Bool = is_takeoff_at l.from l.takeoff_alternate in
    let c : Bool = list_any (is_alternate_at l.to) l.alternates in
    tells_neither (a || b || c) (repeats l.alternates) ((A × B) × C) (AllPairs Differ l.alternates)
    (tells_neither (a || b) c (A × B) C (tells_neither a b A B (not_at_tells l.from l.to) (takeoff_at_tells l.from l.takeoff_alternate)) (none_at_tells l.to l.alternates))
    (repeats_tell l.alternates)

-- ---- times and amounts

abbrev Joins : Option Leg → Leg → Type 0
Joins None l = Unit {0}
Joins (Some before) l = before.to ≡ l.from

abbrev Waits : Option Leg → Leg → Type 0
Waits None l = Unit {0}
Waits (Some before) l = before.eta ≤ l.etd

joins_tell : (before : Option Leg) (l : Leg) → Tells (joins before l) (Joins before l)
joins_tell None l = tt
joins_tell (Some before) l = at_tells before.to l.from

follows_tell : (before : Option Leg) (l : Leg) → Tells (follows before l) (Waits before l)
follows_tell None l = tt
follows_tell (Some before) l = tells_le before.eta l.etd

continues_by : (before : Option Leg) (l : Leg) → Joins before l → Waits before l → Continues before l
continues_by None l joined waits = tt
continues_by (Some before) l joined waits = (joined, waits)

continued_by : (before : Option Leg) (l : Leg) → Continues before l → Joins before l × Waits before l
continued_by None l is = (tt, tt)
continued_by (Some before) l is = is

within_tells : (low n high : ℕ) → Tells (nat_le low n && nat_le n high) ((low ≤ n) × (n ≤ high))
within_tells low n high = tells_and (nat_le low n) (nat_le n high) (low ≤ n) (n ≤ high) (tells_le low n) (tells_le n high)

moments_tell : (before : Option Leg) (l : Leg) → Tells (has_moments before l) (((IsPlannable l.etd × IsPlannable l.eta) × (l.etd < l.eta)) × Waits before l)
moments_tell before l =
    let etd : Bool = is_planned l.etd in
    let eta : Bool = is_planned l.eta in
    let later : Bool = nat_lt l.etd l.eta in
    tells_and (etd && eta && later) (follows before l) ((IsPlannable l.etd × IsPlannable l.eta) × (l.etd < l.eta)) (Waits before l)
    (tells_and (etd && eta) later (IsPlannable l.etd × IsPlannable l.eta) (l.etd < l.eta)
    (tells_and etd eta (IsPlannable l.etd) (IsPlannable l.eta) (within_tells first_planned l.etd last_planned) (within_tells first_planned l.eta last_planned)) (tells_lt l.etd l.eta))
    (follows_tell before l)

minutes_tell : (l : Leg) → Tells (has_minutes l) (((1 ≤ l.minutes) × (l.minutes ≤ l.eta - l.etd)) × (l.minutes ≤ 1440))
minutes_tell l =
    tells_and (nat_le 1 l.minutes && nat_le l.minutes (l.eta - l.etd)) (nat_le l.minutes 1440) ((1 ≤ l.minutes) × (l.minutes ≤ l.eta - l.etd)) (l.minutes ≤ 1440)
    (within_tells 1 l.minutes (l.eta - l.etd)) (tells_le l.minutes 1440)

takeoff_near_tells : (o : Option TakeoffAlternate) → Tells (is_takeoff_near o) ((it : TakeoffAlternate) → o ≡ Some it → IsReached it.minutes)
takeoff_near_tells None = λ it is. absurd (cc)
takeoff_near_tells (Some t) = tells_listed t (is_near t.minutes) (λ it. IsReached it.minutes) (within_tells 1 t.minutes 600)

times_tell : (before : Option Leg) (l : Leg) → Tells (has_times before l) (HasTimes l × Waits before l)
times_tell before l =
    let M : Type 0 = ((IsPlannable l.etd × IsPlannable l.eta) × (l.etd < l.eta)) × Waits before l in
    let N : Type 0 = ((1 ≤ l.minutes) × (l.minutes ≤ l.eta - l.etd)) × (l.minutes ≤ 1440) in
    let T : Type 0 = (it : TakeoffAlternate) → l.takeoff_alternate ≡ Some it → IsReached it.minutes in
    let P : Alternate → Type 0 = λ it. IsReached it.minutes in
    let takeoff : Bool = is_takeoff_near l.takeoff_alternate in
    tells_same (has_moments before l && has_minutes l && takeoff && are_near l.alternates) (((M × N) × T) × All P l.alternates) (HasTimes l × Waits before l)
    (λ is. (
      record {
        etd = is.0.0.0.0.0.0;
        eta = is.0.0.0.0.0.1;
        later = is.0.0.0.0.1;
        some = is.0.0.1.0.0;
        between = let later = is.0.0.0.0.1 in let within = is.0.0.1.0.1 in omega (arith, later, within);
        day = is.0.0.1.1;
        takeoff = is.0.1;
        alternates = is.1;
      },
      is.0.0.0.1,
    ))
    (λ has. (
      (((((has.0.etd, has.0.eta), has.0.later), has.1), ((has.0.some, (let between = has.0.between in omega (arith, between))), has.0.day)), has.0.takeoff),
      has.0.alternates,
    ))
    (tells_and (has_moments before l && has_minutes l && takeoff) (are_near l.alternates) ((M × N) × T) (All P l.alternates)
    (tells_and (has_moments before l && has_minutes l) takeoff (M × N) T (tells_and (has_moments before l) (has_minutes l) M N (moments_tell before l) (minutes_tell l))
    (takeoff_near_tells l.takeoff_alternate))
    (tells_all (λ (a : Alternate). is_near a.minutes) P (λ a. within_tells 1 a.minutes 600) l.alternates))

amounts_tell : (l : Leg) → Tells (has_amounts l) (HasAmounts l)
amounts_tell l =
    let P : Alternate → Type 0 = λ it. it.fuel ≤ 1_000_000 in
    let burn : Bool = is_amount l.burn in
    let extra : Bool = is_amount l.extra in
    let minimum : Bool = is_amount l.minimum in
    let onboard : Bool = is_amount l.onboard in
    let B : Type 0 = l.burn ≤ 1_000_000 in
    let E : Type 0 = l.extra ≤ 1_000_000 in
    let M : Type 0 = l.minimum ≤ 1_000_000 in
    let O : Type 0 = l.onboard ≤ 1_000_000 in
    tells_same (burn && extra && minimum && onboard && are_amounts l.alternates) ((((B × E) × M) × O) × All P l.alternates) (HasAmounts l)
    (λ is. record { burn = is.0.0.0.0; extra = is.0.0.0.1; minimum = is.0.0.1; onboard = is.0.1; alternates = is.1 })
    (λ has. ((((has.burn, has.extra), has.minimum), has.onboard), has.alternates))
    (tells_and (burn && extra && minimum && onboard) (are_amounts l.alternates) (((B × E) × M) × O) (All P l.alternates)
    (tells_and (burn && extra && minimum) onboard ((B × E) × M) O
    (tells_and (burn && extra) minimum (B × E) M (tells_and burn extra B E (tells_le l.burn 1_000_000) (tells_le l.extra 1_000_000)) (tells_le l.minimum 1_000_000))
    (tells_le l.onboard 1_000_000))
    (tells_all (λ (a : Alternate). is_amount a.fuel) P (λ a. tells_le a.fuel 1_000_000) l.alternates))

-- ---- a leg, and the whole plan

abbrev no_why : Option PlanWhy
no_why = None

no_fault : Tells (is_none no_why) (Unit {0})
no_fault = tt

flight_tells : (before : Option Leg) (l : Leg) → Tells (is_none (flight_fault before l)) (Joins before l × ((HasTimes l × Waits before l) × (HasAmounts l × Unit {0})))
flight_tells before l =
    tells_then (joins before l) Unjoined _ (Joins before l) ((HasTimes l × Waits before l) × (HasAmounts l × Unit {0})) (joins_tell before l)
    (tells_then (has_times before l) Times _ (HasTimes l × Waits before l) (HasAmounts l × Unit {0}) (times_tell before l)
    (tells_then (has_amounts l) Amount None (HasAmounts l) (Unit {0}) (amounts_tell l) no_fault))

-- the tests of a leg are those of the tables
pub leg_tells : (tables : TableRows) (before : Option Leg) (l : Leg) → Tells (is_none (leg_fault tables before l)) (MayFollow tables before l)
leg_tells tables before l =
    let F : Type 0 = Joins before l × ((HasTimes l × Waits before l) × (HasAmounts l × Unit {0})) in
    tells_same (is_none (leg_fault tables before l)) (HasAirports tables l × ((length l.alternates ≤ 3) × (OncePerLeg l × F))) (MayFollow tables before l)
    (λ is. record {
      airports = is.0;
      others = record { destination = is.1.1.0.0.0.0; takeoff = is.1.1.0.0.0.1; few = is.1.0; alternates = is.1.1.0.0.1; once = is.1.1.0.1 };
      continues = continues_by before l is.1.1.1.0 is.1.1.1.1.0.1;
      times = is.1.1.1.1.0.0;
      amounts = is.1.1.1.1.1.0;
    })
    (λ may.
    let continued = continued_by before l may.continues in
    (may.airports, (may.others.few, ((((may.others.destination, may.others.takeoff), may.others.alternates), may.others.once), (continued.0, ((may.times, continued.1), (may.amounts, tt)))))))
    (tells_then (has_airports tables l) NoAirport _ (HasAirports tables l) ((length l.alternates ≤ 3) × (OncePerLeg l × F)) (airports_tell tables l)
    (tells_then (has_few_alternates l) Count _ (length l.alternates ≤ 3) (OncePerLeg l × F) (tells_le (length l.alternates) 3)
    (tells_else (is_repeated l) Repeated _ (OncePerLeg l) F (repeated_tells l) (flight_tells before l))))

known_tells : (o : Option Tail) → Tells (is_some o) ((tail : Tail) × (o ≡ Some tail))
known_tells None = λ has. let e = has.1 in absurd (cc)
known_tells (Some tail) = (tail, refl)

-- the tests of the whole plan are those of the airline
pub whole_tells : (tables : TableRows) (plan : Plan) → Tells (is_none (whole_fault tables plan)) (IsOfAirline tables plan)
whole_tells tables plan =
    let A : Type 0 = (tail : Tail) × (tail_named tables plan.tail ≡ Some tail) in
    let C : Type 0 = has_captain tables plan.captain ≡ true in
    let L : Type 0 = (1 ≤ length plan.legs) × (length plan.legs ≤ 8) in
    tells_same (is_none (whole_fault tables plan)) (A × (C × (L × Unit {0}))) (IsOfAirline tables plan)
    (λ is. record { aircraft = is.0.0; has_aircraft = is.0.1; captain = is.1.0; some = is.1.1.0.0; few = is.1.1.0.1 })
    (λ has. ((has.aircraft, has.has_aircraft), (has.captain, ((has.some, has.few), tt))))
    (tells_then (is_some (tail_named tables plan.tail)) UnknownTail _ A (C × (L × Unit {0})) (known_tells (tail_named tables plan.tail))
    (tells_then (has_captain tables plan.captain) UnknownCaptain _ C (L × Unit {0}) (tells_true (has_captain tables plan.captain))
    (tells_then (has_legs plan) Count None L (Unit {0}) (within_tells 1 (length plan.legs) 8) no_fault)))

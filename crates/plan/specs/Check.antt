-- The tests of a plan under the airline's tables.
use Rattle.std.specs.Prelude.{ℕ, ◌+◌, ◌-◌, Bool, ◌&&◌, ◌||◌, not, true, false, ◌≤◌, nat_lt, nat_le, if◌then◌else◌, List, [], ◌∷◌, length, Option, None, Some, is_some}
use Rattle.std.specs.List.{AllByRecursion, list_all, list_any}
use Rattle.std.specs.Str.{bytes_eq}
use Rattle.desk_time.specs.Limits.{IsMoment, first_planned, last_planned}
use Rattle.desk_io.specs.Station.{Station}
use Rattle.ops_tables.specs.Tables.{TableRows, tail_named, has_airport, has_captain}
use Rattle.plan.specs.declared.flights.Plan.{Plan}
use Rattle.plan.specs.declared.flights.Leg.{Leg}
use Rattle.plan.specs.declared.flights.Alternate.{Alternate}
use Rattle.plan.specs.declared.flights.TakeoffAlternate.{TakeoffAlternate}
use Rattle.plan.specs.declared.check.BadPlan.{BadPlan}
use Rattle.plan.specs.declared.check.PlanWhy.{PlanWhy}
use Rattle.plan.specs.declared.check.PlanWhy.TheVariants.{UnknownTail, UnknownCaptain, Count, NoAirport, Repeated, Unjoined, Times, Amount}

-- the plan has one to eight legs
abbrev pub has_legs : Plan → Bool
has_legs p = nat_le 1 (length p.legs) && nat_le (length p.legs) 8

abbrev pub is_at : Station → Station → Bool
is_at a b = bytes_eq a b

abbrev pub is_alternate_at : Station → Alternate → Bool
is_alternate_at s a = is_at a.station s

-- an alternate is listed twice
abbrev pub repeats : List Alternate → Bool
repeats [] = false
repeats (a ∷ rest) = list_any (is_alternate_at a.station) rest || repeats rest

abbrev pub is_takeoff_at : Station → Option TakeoffAlternate → Bool
is_takeoff_at s None = false
is_takeoff_at s (Some t) = is_at t.station s

-- The destination or the takeoff alternate is the departure, or an alternate is the destination or is listed twice.
abbrev pub is_repeated : Leg → Bool
is_repeated l = is_at l.from l.to || is_takeoff_at l.from l.takeoff_alternate || list_any (is_alternate_at l.to) l.alternates || repeats l.alternates

abbrev pub is_takeoff_airport : TableRows → Option TakeoffAlternate → Bool
is_takeoff_airport tables None = true
is_takeoff_airport tables (Some t) = has_airport tables t.station

-- the table of airports has each airport of the leg
abbrev pub has_airports : TableRows → Leg → Bool
has_airports tables l =
    has_airport tables l.from && has_airport tables l.to && is_takeoff_airport tables l.takeoff_alternate && list_all (λ a. has_airport tables a.station) l.alternates

-- the leg has at most three alternates
abbrev pub has_few_alternates : Leg → Bool
has_few_alternates l = nat_le (length l.alternates) 3

-- the leg begins where the leg before it ends
abbrev pub joins : Option Leg → Leg → Bool
joins None l = true
joins (Some before) l = is_at before.to l.from

-- a moment for which a leg may be planned
abbrev pub is_planned : ℕ → Bool
is_planned m = nat_le first_planned m && nat_le m last_planned

-- the leg departs no earlier than the leg before it arrives
abbrev pub follows : Option Leg → Leg → Bool
follows None l = true
follows (Some before) l = nat_le before.eta l.etd

-- the flight time to an alternate is 1 to 600 minutes
abbrev pub is_near : ℕ → Bool
is_near minutes = nat_le 1 minutes && nat_le minutes 600

abbrev pub is_takeoff_near : Option TakeoffAlternate → Bool
is_takeoff_near None = true
is_takeoff_near (Some t) = is_near t.minutes

abbrev pub has_moments : Option Leg → Leg → Bool
has_moments before l = is_planned l.etd && is_planned l.eta && nat_lt l.etd l.eta && follows before l

-- the time in the air is 1 to 1,440 minutes, and no longer than from ETD to ETA
abbrev pub has_minutes : Leg → Bool
has_minutes l = nat_le 1 l.minutes && nat_le l.minutes (l.eta - l.etd) && nat_le l.minutes 1440

abbrev pub are_near : List Alternate → Bool
are_near alternates = list_all (λ a. is_near a.minutes) alternates

abbrev pub has_times : Option Leg → Leg → Bool
has_times before l = has_moments before l && has_minutes l && is_takeoff_near l.takeoff_alternate && are_near l.alternates

-- the fuel is at most 1,000,000 pounds
abbrev pub is_amount : ℕ → Bool
is_amount pounds = nat_le pounds 1_000_000

abbrev pub are_amounts : List Alternate → Bool
are_amounts alternates = list_all (λ a. is_amount a.fuel) alternates

abbrev pub has_amounts : Leg → Bool
has_amounts l = is_amount l.burn && is_amount l.extra && is_amount l.minimum && is_amount l.onboard && are_amounts l.alternates

-- the first of the tests of joining, times and fuel that the leg fails, given the leg before it
abbrev pub flight_fault : Option Leg → Leg → Option PlanWhy
flight_fault before l =
    if not (joins before l) then Some Unjoined else (if not (has_times before l) then Some Times else (if not (has_amounts l) then Some Amount else None))

-- the first test that the leg fails, given the leg before it
abbrev pub leg_fault : TableRows → Option Leg → Leg → Option PlanWhy
leg_fault tables before l =
    if not (has_airports tables l) then Some NoAirport
    else (if not (has_few_alternates l) then Some Count else (if is_repeated l then Some Repeated else flight_fault before l))

abbrev pub fault_or : Option PlanWhy → ℕ → Option BadPlan → Option BadPlan
fault_or None n later = later
fault_or (Some why) n later = Some (record { leg = n; why = why })

-- the first leg that fails a test, if the first leg has number n
abbrev pub first_fault : TableRows → ℕ → Option Leg → List Leg → Option BadPlan
first_fault tables n before [] = None
first_fault tables n before (l ∷ ls) = fault_or (leg_fault tables before l) n (first_fault tables (n + 1) (Some l) ls)

-- the first test of the whole plan that fails
abbrev pub whole_fault : TableRows → Plan → Option PlanWhy
whole_fault tables p =
    if not (is_some (tail_named tables p.tail)) then Some UnknownTail
    else (if not (has_captain tables p.captain) then Some UnknownCaptain else (if not (has_legs p) then Some Count else None))

-- The first test that a plan fails. The whole plan is tested first, and then leg by leg.
unfoldable pub plan_fault : TableRows → Plan → Option BadPlan
plan_fault tables p = fault_or (whole_fault tables p) 0 (first_fault tables 1 None p.legs)

-- the ETD and ETA of the leg can be written
abbrev pub HasMoments : Leg → Type 0
HasMoments leg = IsMoment leg.etd × IsMoment leg.eta

-- What holds of every plan that the desk has read: at most 1,000 legs, whose times can be written.
pub record IsPlan (plan : Plan) : Type 0 where
  pub few : length plan.legs ≤ 1000
  pub moments : AllByRecursion HasMoments plan.legs

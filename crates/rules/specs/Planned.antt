-- Which plans the airline's tables allow: who flies which aircraft, and each leg by itself and after the leg before it.
use Rattle.std.specs.Prelude.{◌≡◌, ◌≢◌, ℕ, ◌+◌, ◌<◌, ◌≤◌, true, length, Option, None, Some}
use Rattle.std.specs.List.{All, AllPairs}
use Rattle.desk_time.specs.Limits.{first_planned, last_planned}
use Rattle.ops_tables.specs.declared.rows.Tail.{Tail}
use Rattle.ops_tables.specs.Tables.{TableRows, tail_named, has_airport, has_captain}
use Rattle.plan.specs.declared.flights.Plan.{Plan}
use Rattle.plan.specs.declared.flights.Leg.{Leg}
use Rattle.plan.specs.declared.flights.TakeoffAlternate.{TakeoffAlternate}

-- the airline has the aircraft and the captain, and the plan has one to eight legs
pub record IsOfAirline (tables : TableRows) (plan : Plan) : Type 0 where
  pub aircraft : Tail
  pub has_aircraft : tail_named tables plan.tail ≡ Some aircraft
  pub captain : has_captain tables plan.captain ≡ true
  pub some : 1 ≤ length plan.legs
  pub few : length plan.legs ≤ 8

-- the table of airports has each airport of a leg
pub record HasAirports (tables : TableRows) (leg : Leg) : Type 0 where
  pub departure : has_airport tables leg.from ≡ true
  pub destination : has_airport tables leg.to ≡ true
  pub takeoff : (it : TakeoffAlternate) → leg.takeoff_alternate ≡ Some it → has_airport tables it.station ≡ true
  pub alternates : All (λ it. has_airport tables it.station ≡ true) leg.alternates

-- A leg ends elsewhere than it begins. Its takeoff alternate isn't the departure. At most three alternates are
-- listed, none is the destination, and none is listed twice.
pub record HasOtherAirports (leg : Leg) : Type 0 where
  pub destination : leg.from ≢ leg.to
  pub takeoff : (it : TakeoffAlternate) → leg.takeoff_alternate ≡ Some it → it.station ≢ leg.from
  pub few : length leg.alternates ≤ 3
  pub alternates : All (λ it. it.station ≢ leg.to) leg.alternates
  pub once : AllPairs (λ earlier later. later.station ≢ earlier.station) leg.alternates

-- a leg begins where the leg before it ends, and no earlier
abbrev pub Continues : Option Leg → Leg → Type 0
Continues None leg = Unit {0}
Continues (Some before) leg = (before.to ≡ leg.from) × (before.eta ≤ leg.etd)

-- a moment for which a leg may be planned
abbrev pub IsPlannable : ℕ → Type 0
IsPlannable moment = (first_planned ≤ moment) × (moment ≤ last_planned)

-- the flight time to an alternate is 1 to 600 minutes
abbrev pub IsReached : ℕ → Type 0
IsReached minutes = (1 ≤ minutes) × (minutes ≤ 600)

-- The ETA is after the ETD. The time in the air is at least a minute, at most a day, and no longer than from the ETD to
-- the ETA.
pub record HasTimes (leg : Leg) : Type 0 where
  pub etd : IsPlannable leg.etd
  pub eta : IsPlannable leg.eta
  pub later : leg.etd < leg.eta
  pub some : 1 ≤ leg.minutes
  pub between : leg.etd + leg.minutes ≤ leg.eta
  pub day : leg.minutes ≤ 1440
  pub takeoff : (it : TakeoffAlternate) → leg.takeoff_alternate ≡ Some it → IsReached it.minutes
  pub alternates : All (λ it. IsReached it.minutes) leg.alternates

-- no amount of fuel is above 1,000,000 pounds
pub record HasAmounts (leg : Leg) : Type 0 where
  pub burn : leg.burn ≤ 1_000_000
  pub extra : leg.extra ≤ 1_000_000
  pub minimum : leg.minimum ≤ 1_000_000
  pub onboard : leg.onboard ≤ 1_000_000
  pub alternates : All (λ it. it.fuel ≤ 1_000_000) leg.alternates

-- the tables allow a leg after the leg before it
pub record MayFollow (tables : TableRows) (before : Option Leg) (leg : Leg) : Type 0 where
  pub airports : HasAirports tables leg
  pub others : HasOtherAirports leg
  pub continues : Continues before leg
  pub times : HasTimes leg
  pub amounts : HasAmounts leg

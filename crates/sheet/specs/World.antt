-- The numbers of a line are those of the world: of the plan's leg, the tables, the deferrals and the reports that are
-- held. Each rule has one row here, which states where each number of its line comes from.
use Rattle.std.specs.Prelude.{◌≡◌, ℕ, ◌+◌, ◌-◌, ◌*◌, ◌<◌, ◌≤◌, true, false, List, [], ◌∷◌, length, Option, None, Some, IsSome, All, Any, Contains}
use Rattle.std.specs.List.{slice_get}
use Rattle.std.specs.Option.{option_map}
use Rattle.desk_io.specs.Station.{Station}
use Rattle.desk_io.specs.declared.pair.Pair.{Pair}
use Rattle.desk_time.specs.Limits.{last_moment}
use Rattle.ops_tables.specs.declared.rows.MelRow.{MelRow}
use Rattle.ops_tables.specs.declared.rows.Settings.{Settings}
use Rattle.ops_tables.specs.Tables.{type_of, miles_of, item_of, may_use}
use Rattle.airport_minima.specs.Floor.{flag_floor}
use Rattle.deferrals.specs.Due.{due}
use Rattle.deferrals.specs.declared.items.Deferral.{Deferral}
use Rattle.plan.specs.Check.{plan_fault}
use Rattle.plan.specs.declared.check.BadPlan.{BadPlan}
use Rattle.plan.specs.declared.findings.Rule.{Rule}
use Rattle.plan.specs.declared.findings.Rule.TheVariants.{No1, No2, No3, No4, No5, No6, No7, No8, No9, No10, No11, No12, No13, No14, No15, No16, No17, No18, No19}
use Rattle.plan.specs.declared.flights.Alternate.{Alternate}
use Rattle.plan.specs.declared.flights.Kind.{Kind}
use Rattle.plan.specs.declared.flights.Kind.TheVariants.{Domestic, Flag}
use Rattle.plan.specs.declared.flights.Leg.{Leg}
use Rattle.plan.specs.declared.flights.Plan.{Plan}
use Rattle.plan.specs.declared.flights.TakeoffAlternate.{TakeoffAlternate}
use Rattle.plan.specs.declared.fuel.Basis.{Basis}
use Rattle.plan.specs.declared.fuel.Basis.TheVariants as basis
use Rattle.plan.specs.declared.release.Phase.{Phase}
use Rattle.plan.specs.declared.release.Phase.TheVariants.{Flying, Stopped}
use Rattle.weather_window.specs.Values.{Element}
use Rattle.weather_window.specs.Values as element
use Rattle.rules.specs.Circumstances.{Case, weather_at, worst_weather, landing_at, alternate_at, arrival_minima}
use Rattle.rules.specs.DestinationAlternates.{is_flag, needs_alternate, is_free}
use Rattle.rules.specs.Equipment.{is_paired_with}
use Rattle.rules.specs.Fuel.{basis_of, required_fuel}
use Rattle.rules.specs.Grounds.{Grounds}
use Rattle.rules.specs.Judgement.{case_for, leg_numbered}
use Rattle.rules.specs.Regulation.{DepartsNext, fair}
use Rattle.sheet.specs.declared.lines.AirportUse.{AirportUse}
use Rattle.sheet.specs.declared.lines.Allowance.{Allowance}
use Rattle.sheet.specs.declared.lines.AlternateNeed.{AlternateNeed}
use Rattle.sheet.specs.declared.lines.Compared.{Compared}
use Rattle.sheet.specs.declared.lines.Compared.TheVariants as compared
use Rattle.sheet.specs.declared.lines.Departure.{Departure}
use Rattle.sheet.specs.declared.lines.Elapsed.{Elapsed}
use Rattle.sheet.specs.declared.lines.FuelSum.{FuelSum}
use Rattle.sheet.specs.declared.lines.ItemLimit.{ItemLimit}
use Rattle.sheet.specs.declared.lines.Line.{Line}
use Rattle.sheet.specs.declared.lines.OnBoard.{OnBoard}
use Rattle.sheet.specs.declared.lines.Origin.{Origin}
use Rattle.sheet.specs.declared.lines.Range.{Range}
use Rattle.sheet.specs.declared.lines.Repair.{Repair}
use Rattle.sheet.specs.declared.lines.Second.{Second}
use Rattle.sheet.specs.declared.lines.Source.{Source}
use Rattle.sheet.specs.declared.lines.TablesFault.TheVariants as tables
use Rattle.sheet.specs.declared.lines.WeatherAt.{WeatherAt}
use Rattle.sheet.specs.Fuel.{AddsUp}
use Rattle.sheet.specs.Lines.{line}
use Rattle.sheet.specs.Origins.{AreLandingFrom, AreListedFrom, AreArrivalFrom}
use Rattle.sheet.specs.Sources.{IsGivenBy}

-- a known value has a source that gives it, and an unknown one has none
abbrev pub IsFrom : Element → Grounds → Station → ℕ → Option ℕ → Option Source → Type 0
IsFrom of g station minute None None = Unit {0}
IsFrom of g station minute None (Some source) = ⊥
IsFrom of g station minute (Some value) None = ⊥
IsFrom of g station minute (Some value) (Some source) = IsGivenBy of g station minute value source

-- The weather that controls at a station at the minute, what gives it, the minima with which it is compared, and what
-- each of them stands for.
pub record IsWeatherAt (g : Grounds) (station : Station) (minute : ℕ) (minima : List Pair)
    (AreFrom : List Pair → List Origin → Type 0) (there : WeatherAt) : Type 0 where
  pub place : there.station ≡ station
  pub moment : there.minute ≡ minute
  pub weather : there.weather ≡ weather_at g station minute
  pub ceiling : IsFrom element.ceiling g station minute there.weather.ceiling there.ceiling_from
  pub visibility : IsFrom element.visibility g station minute there.weather.vis there.vis_from
  pub against : there.minima ≡ minima
  pub stand_for : AreFrom there.minima there.origins

-- the weather at a station, with its landing minima
abbrev pub IsAtLanding : Case → Station → ℕ → WeatherAt → Type 0
IsAtLanding c station minute there =
    IsWeatherAt c.grounds station minute (landing_at c station) (AreLandingFrom c station) there

-- the weather at a station, with its alternate minima
abbrev pub IsAtAlternate : Case → Station → ℕ → WeatherAt → Type 0
IsAtAlternate c station minute there =
    IsWeatherAt c.grounds station minute (alternate_at c station) (AreListedFrom c station) there

-- the weather at the destination, with the landing minima that hold for the captain
abbrev pub IsAtDestination : Case → Station → ℕ → WeatherAt → Type 0
IsAtDestination c station minute there =
    IsWeatherAt c.grounds station minute (arrival_minima c station) (AreArrivalFrom c station) there

-- Since when a rule of time counts for leg n, and how many minutes it allows. A stop counts from the last arrival, until
-- the flight is released again.
pub data Allows (flight : Kind) (phase : Phase) (settings : Settings) (n : ℕ) (leg : Leg) : Rule → ℕ → ℕ → Type 0 where
  domestic_stop : {since : ℕ} → flight ≡ Domestic → phase ≡ Stopped n since false
      → Allows flight phase settings n leg No1 since 60
  flag_stop : {since : ℕ} → flight ≡ Flag → phase ≡ Stopped n since false
      → Allows flight phase settings n leg No2 since (6 * 60)
  next_departure : DepartsNext phase n → Allows flight phase settings n leg No17 leg.etd settings.late_off
  next_arrival : phase ≡ Flying n → Allows flight phase settings n leg No18 leg.eta settings.late_on

-- the minutes from the beginning to the moment of the sheet
pub record IsCounted (since allowed moment : ℕ) (elapsed : Elapsed) : Type 0 where
  pub began : elapsed.since ≡ since
  pub ended : elapsed.moment ≡ moment
  pub minutes : elapsed.minutes ≡ moment - since
  pub limit : elapsed.allowed ≡ allowed

-- the distance to the takeoff alternate, and that of one hour with two engines, or of two hours with more
pub record IsRange (c : Case) (leg : Leg) (station : Station) (range : Range) : Type 0 where
  pub place : range.station ≡ station
  pub miles : range.miles ≡ miles_of c.grounds.tables leg.from station
  pub engines : range.engines ≡ c.aircraft.engines
  pub knots : range.knots ≡ c.aircraft.oei_knots
  pub two_engines : c.aircraft.engines ≤ 2 → range.allowed ≡ c.aircraft.oei_knots
  pub more_engines : 3 ≤ c.aircraft.engines → range.allowed ≡ 2 * c.aircraft.oei_knots

-- the scheduled minutes, the worst weather at the destination from an hour before the ETA to an hour after it, and the
-- alternates
pub record IsNeed (c : Case) (leg : Leg) (need : AlternateNeed) : Type 0 where
  pub place : need.station ≡ leg.to
  pub an_hour_before : need.from ≡ leg.eta - 60
  pub an_hour_after : need.to ≡ leg.eta + 60
  pub minutes : need.minutes ≡ leg.eta - leg.etd
  pub weather : need.weather ≡ worst_weather c.grounds need.station need.from need.to
  pub listed : need.listed ≡ length leg.alternates

-- whether a domestic leg needs an alternate depends on the weather alone
pub record IsDomesticNeed (need : AlternateNeed) : Type 0 where
  pub longest : need.longest ≡ None
  pub floor : need.floor ≡ Some fair
  pub free : need.is_free ≡ None

-- a flag leg may go without an alternate for up to six hours in good weather, or on a free route
pub record IsFlagNeed (c : Case) (leg : Leg) (need : AlternateNeed) : Type 0 where
  pub longest : need.longest ≡ Some (6 * 60)
  pub floor : need.floor ≡ flag_floor c.grounds.tables c.aircraft leg.to c.limits.lost
  pub free : need.is_free ≡ Some (is_free c leg)

-- the destination at the ETA, the alternate when the aircraft arrives there, and the airline's margin
pub record IsSecond (c : Case) (leg : Leg) (it : Alternate) (second : Second) : Type 0 where
  pub destination : IsAtLanding c leg.to leg.eta second.destination
  pub alternate : IsAtAlternate c it.station (leg.eta + it.minutes) second.alternate
  pub feet : second.margin.ceiling ≡ c.grounds.tables.settings.marginal_ceiling
  pub millimetres : second.margin.vis ≡ c.grounds.tables.settings.marginal_vis16 * 100_584

-- the row of the type's list, if it has the item
abbrev pub IsAllowance : Option MelRow → Option Allowance → Type 0
IsAllowance None None = Unit {0}
IsAllowance None (Some allows) = ⊥
IsAllowance (Some row) None = ⊥
IsAllowance (Some row) (Some allows) = (allows.flag_ok ≡ row.flag_ok) × (allows.max_minutes ≡ row.max_minutes)

-- no deferral before this place excludes the item
abbrev pub NoneExcludes : Case → Deferral → ℕ → Type 0
NoneExcludes c d place = (earlier : ℕ) (e : Deferral) → earlier < place → slice_get c.deferred earlier ≡ Some e
    → is_paired_with c d e ≡ false

-- the first deferral of the aircraft whose item excludes this one
pub record IsFirstExcluder (c : Case) (d : Deferral) (id : ℕ) : Type 0 where
  pub place : ℕ
  pub by : Deferral
  pub stands : slice_get c.deferred place ≡ Some by
  pub its_id : by.id ≡ id
  pub excludes : is_paired_with c d by ≡ true
  pub first : NoneExcludes c d place

-- the first excluder; none only if there is none
abbrev pub IsExcluder : Case → Deferral → Option ℕ → Type 0
IsExcluder c d None = NoneExcludes c d (length c.deferred)
IsExcluder c d (Some id) = IsFirstExcluder c d id

pub record IsLimit (c : Case) (leg : Leg) (d : Deferral) (limit : ItemLimit) : Type 0 where
  pub item : limit.item ≡ d.item
  pub flag : limit.is_flag ≡ is_flag c.flight
  pub minutes : limit.minutes ≡ leg.minutes
  pub allowance : IsAllowance (item_of c.grounds.tables c.aircraft.kind d.item) limit.allows
  pub excluder : IsExcluder c d limit.excluded_by

-- when the fault was found, when the repair is due, and the ETA; a fault found after the last moment has no due moment
pub record IsRepair (leg : Leg) (d : Deferral) (row : MelRow) (repair : Repair) : Type 0 where
  pub item : repair.item ≡ d.item
  pub found : repair.found ≡ d.found
  pub in_time : d.found ≤ last_moment → repair.due ≡ Some (due row d.found)
  pub too_late : last_moment < d.found → repair.due ≡ None
  pub eta : repair.eta ≡ leg.eta

-- the airports at which the type must be allowed, by the place in a finding
pub data HasAirport (leg : Leg) : ℕ → Station → Type 0 where
  at_destination : HasAirport leg 0 leg.to
  at_alternate : (i : ℕ) (it : Alternate) → slice_get leg.alternates i ≡ Some it → HasAirport leg (1 + i) it.station
  at_takeoff_alternate : (it : TakeoffAlternate) → leg.takeoff_alternate ≡ Some it → HasAirport leg 9 it.station

pub record IsUse (c : Case) (station : Station) (airport : AirportUse) : Type 0 where
  pub type_is : airport.kind ≡ c.aircraft.kind
  pub place : airport.station ≡ station
  pub allowed : airport.may_use ≡ may_use c.grounds.tables c.aircraft.kind station

-- the least whole number of pounds that is at least this quotient
pub record IsRoundedUp (amount parts pounds : ℕ) : Type 0 where
  pub enough : amount ≤ pounds * parts
  pub no_more : pounds * parts < amount + parts

-- a tenth of the time in the air at the cruise rate (14 CFR 121.645(b)(2))
abbrev pub IsTenth : Basis → Case → Leg → ℕ → Type 0
IsTenth basis.Domestic c leg pounds = pounds ≡ 0
IsTenth basis.Flag c leg pounds = IsRoundedUp (c.aircraft.cruise_pph * leg.minutes) 600 pounds
IsTenth basis.NoAlternate c leg pounds = pounds ≡ 0

-- 45 minutes at the cruise rate, 30 minutes of holding, or two hours at the cruise rate
abbrev pub IsReserve : Basis → Case → ℕ → Type 0
IsReserve basis.Domestic c pounds = IsRoundedUp (c.aircraft.cruise_pph * 45) 60 pounds
IsReserve basis.Flag c pounds = IsRoundedUp (c.aircraft.hold_pph * 30) 60 pounds
IsReserve basis.NoAlternate c pounds = pounds ≡ 2 * c.aircraft.cruise_pph

-- the fuel to the most distant alternate: none takes more, and one takes as much
pub record IsMost (listed : List Alternate) (pounds : ℕ) : Type 0 where
  pub none_takes_more : All (λ it. it.fuel ≤ pounds) listed
  pub one_takes_it : 0 < pounds → Any (λ it. it.fuel ≡ pounds) listed

-- the fuel to the most distant alternate, if one is needed
pub record IsToAlternate (c : Case) (leg : Leg) (pounds : ℕ) : Type 0 where
  pub needed : needs_alternate c leg ≡ true → IsMost leg.alternates pounds
  pub unneeded : needs_alternate c leg ≡ false → pounds ≡ 0

-- each term is what its name says, and the terms add up to what the rule requires
pub record IsFuel (c : Case) (leg : Leg) (sum : FuelSum) : Type 0 where
  pub stated : sum.stated ≡ leg.minimum
  pub required : sum.required ≡ required_fuel c leg
  pub counted_by : sum.basis ≡ basis_of c leg
  pub burn : sum.burn ≡ leg.burn
  pub extra : sum.extra ≡ leg.extra
  pub tenth : IsTenth (basis_of c leg) c leg sum.tenth
  pub alternate : IsToAlternate c leg sum.alternate
  pub reserve : IsReserve (basis_of c leg) c sum.reserve
  pub deferred : sum.deferred ≡ c.limits.extra_fuel
  pub adds_up : AddsUp sum

-- what each rule compares at a place of a leg
pub data IsOfLeg (c : Case) (leg : Leg) : Rule → ℕ → Compared → Type 0 where
  landing : {there : WeatherAt} → IsAtDestination c leg.to leg.eta there → IsOfLeg c leg No3 0 (compared.Weather there)
  departure : {there : Departure} → IsAtLanding c leg.from leg.etd there.there
      → there.listed ≡ option_map (λ it. it.station) leg.takeoff_alternate
      → IsOfLeg c leg No4 0 (compared.Takeoff there)
  takeoff_range : {range : Range} → (it : TakeoffAlternate) → leg.takeoff_alternate ≡ Some it
      → IsRange c leg it.station range → IsOfLeg c leg No5 0 (compared.Distance range)
  takeoff_weather : {there : WeatherAt} → (it : TakeoffAlternate) → leg.takeoff_alternate ≡ Some it
      → IsAtAlternate c it.station (leg.etd + it.minutes) there → IsOfLeg c leg No6 0 (compared.Weather there)
  domestic_need : {need : AlternateNeed} → c.flight ≡ Domestic → IsNeed c leg need → IsDomesticNeed need
      → IsOfLeg c leg No7 0 (compared.Need need)
  second_need : {second : Second} → (it : Alternate) → leg.alternates ≡ it ∷ [] → IsSecond c leg it second
      → IsOfLeg c leg No8 0 (compared.Margin second)
  flag_need : {need : AlternateNeed} → c.flight ≡ Flag → IsNeed c leg need → IsFlagNeed c leg need
      → IsOfLeg c leg No9 0 (compared.Need need)
  alternate_weather : {there : WeatherAt} → (i : ℕ) (it : Alternate) → slice_get leg.alternates i ≡ Some it
      → IsAtAlternate c it.station (leg.eta + it.minutes) there → IsOfLeg c leg No10 (1 + i) (compared.Weather there)
  limit : {limit : ItemLimit} → (d : Deferral) → Contains c.deferred d → IsLimit c leg d limit
      → IsOfLeg c leg No11 d.id (compared.Limit limit)
  repair : {repair : Repair} → (d : Deferral) (row : MelRow) → Contains c.deferred d
      → item_of c.grounds.tables c.aircraft.kind d.item ≡ Some row → IsRepair leg d row repair
      → IsOfLeg c leg No12 d.id (compared.Due repair)
  airport : {airport : AirportUse} → (place : ℕ) (station : Station) → HasAirport leg place station
      → IsUse c station airport → IsOfLeg c leg No13 place (compared.Airport airport)
  domestic_fuel : {sum : FuelSum} → c.flight ≡ Domestic → IsFuel c leg sum → IsOfLeg c leg No14 0 (compared.Fuel sum)
  flag_fuel : {sum : FuelSum} → c.flight ≡ Flag → IsFuel c leg sum → IsOfLeg c leg No15 0 (compared.Fuel sum)
  aboard : {fuel : OnBoard} → fuel.onboard ≡ leg.onboard → fuel.minimum ≡ leg.minimum
      → IsOfLeg c leg No16 0 (compared.Board fuel)

-- The numbers of the line are those of the world. Its leg is the plan's leg of this number, and the line of the tables
-- names the first fault of the plan.
pub data IsOfWorld (plan : Plan) (phase : Phase) (g : Grounds) : Line → Type 0 where
  of_time : (rule : Rule) (n since allowed : ℕ) (leg : Leg) (elapsed : Elapsed) → leg_numbered n 1 plan.legs ≡ Some leg
      → Allows plan.kind phase g.tables.settings n leg rule since allowed → IsCounted since allowed g.moment elapsed
      → IsOfWorld plan phase g (line rule n 0 (compared.Time elapsed))
  of_leg : (rule : Rule) (n place : ℕ) (leg : Leg) (c : Case) (it : Compared) → leg_numbered n 1 plan.legs ≡ Some leg
      → case_for plan g ≡ Some c → IsOfLeg c leg rule place it
      → IsOfWorld plan phase g (line rule n place it)
  bad_plan : (bad : BadPlan) → plan_fault g.tables plan ≡ Some bad
      → IsOfWorld plan phase g (line No19 bad.leg 0 (compared.Tables (Some (tables.Plan bad.why))))
  no_type : plan_fault g.tables plan ≡ None → type_of g.tables plan.tail ≡ None
      → IsOfWorld plan phase g (line No19 0 0 (compared.Tables (Some tables.NoType)))
  passes : plan_fault g.tables plan ≡ None → IsSome (type_of g.tables plan.tail)
      → IsOfWorld plan phase g (line No19 0 0 (compared.Tables None))

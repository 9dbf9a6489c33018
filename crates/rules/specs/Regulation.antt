-- What each section of 14 CFR 121 requires of a leg, and that the findings follow it exactly.
use Rattle.std.specs.Prelude.{◌≡◌, ◌↔◌, ◌⊎◌, ℕ, ◌+◌, ◌*◌, ◌/◌, ◌-◌, ◌<◌, ◌≤◌, Bool, true, false, List, [], ◌∷◌, length, None, Some, IsSome, Any, Contains}
use Rattle.std.specs.List.{All}
use Rattle.desk_io.specs.Station.{Station}
use Rattle.desk_io.specs.declared.pair.Pair.{Pair}
use Rattle.ops_tables.specs.declared.rows.Settings.{Settings}
use Rattle.ops_tables.specs.declared.rows.MelRow.{MelRow}
use Rattle.ops_tables.specs.declared.rows.TypeRow.{TypeRow}
use Rattle.ops_tables.specs.Tables.{hours_of, type_of, miles_of, route_free, item_of, are_paired, may_use}
use Rattle.plan.specs.Check.{plan_fault}
use Rattle.plan.specs.Phases.{standing}
use Rattle.plan.specs.declared.flights.Kind.{Kind}
use Rattle.plan.specs.declared.flights.Kind.TheVariants.{Domestic, Flag}
use Rattle.plan.specs.declared.flights.Plan.{Plan}
use Rattle.plan.specs.declared.flights.Leg.{Leg}
use Rattle.plan.specs.declared.flights.Alternate.{Alternate}
use Rattle.plan.specs.declared.flights.TakeoffAlternate.{TakeoffAlternate}
use Rattle.plan.specs.declared.findings.Finding.{Finding}
use Rattle.plan.specs.declared.findings.Rule.{Rule}
use Rattle.plan.specs.declared.findings.Rule.TheVariants.{No1, No2, No3, No4, No5, No6, No7, No8, No9, No10, No11, No12, No13, No14, No15, No16, No17, No18, No19}
use Rattle.plan.specs.declared.release.Phase.{Phase}
use Rattle.plan.specs.declared.release.Phase.TheVariants.{Drafted, Ready, Flying, Stopped}
use Rattle.plan.specs.declared.release.Standing.TheVariants.{Ahead, Flown}
use Rattle.weather_window.specs.Values.{Element, values_at}
use Rattle.weather_window.specs.Values as element
use Rattle.facts.specs.Latest.{metar_latest, taf_latest}
use Rattle.airport_minima.specs.Floor.{flag_floor}
use Rattle.airport_minima.specs.Raised.{raised}
use Rattle.deferrals.specs.Due.{LeavesDays}
use Rattle.deferrals.specs.declared.items.Deferral.{Deferral}
use Rattle.rules.specs.Grounds.{Grounds}
use Rattle.rules.specs.Circumstances.{Case, case_of, landing_at, alternate_at}
use Rattle.rules.specs.Fuel.{is_within_states}
use Rattle.rules.specs.Judgement.{finding, leg_numbered}
use Rattle.rules.specs.Planned.{IsOfAirline, MayFollow}

-- No named value is below the least. If the least isn't 0, a value is known.
pub record IsAtLeast (named : List ℕ) (least : ℕ) : Type 0 where
  pub known : 0 < least → 0 < length named
  pub none_is_less : All (λ value. least ≤ value) named

-- the values of an element that the latest TAF and METAR of a station give for a minute
abbrev pub named_at : Element → Grounds → Station → ℕ → List ℕ
named_at of g station minute = values_at of (taf_latest g.reports station) (metar_latest g.reports station) g.tables.settings.hold_minutes minute

-- the ceiling and the visibility of a station are at or above these minima at the minute
pub record IsAtOrAbove (g : Grounds) (station : Station) (minute : ℕ) (minima : Pair) : Type 0 where
  pub feet : IsAtLeast (named_at element.ceiling g station minute) minima.ceiling
  pub millimetres : IsAtLeast (named_at element.visibility g station minute) minima.vis

-- the weather is at or above one of the landing minima
abbrev pub AllowsLanding : Case → Station → ℕ → Type 0
AllowsLanding c station minute = Any (IsAtOrAbove c.grounds station minute) (landing_at c station)

-- the weather is at or above one of the landing minima as 14 CFR 121.652 raises them
abbrev pub AllowsRaisedLanding : Case → Station → ℕ → Type 0
AllowsRaisedLanding c station minute = Any (IsAtOrAbove c.grounds station minute) (raised (landing_at c station) (alternate_at c station))

-- The weather allows a landing at the destination. For a captain with 100 hours in the type the landing minima hold
-- (14 CFR 121.613). For one with fewer the raised minima hold (14 CFR 121.652).
pub record AllowsArrival (c : Case) (station : Station) (minute : ℕ) : Type 0 where
  pub by_minima : 100 ≤ c.hours → AllowsLanding c station minute
  pub by_raised : c.hours < 100 → AllowsRaisedLanding c station minute

-- the weather is at or above one of the alternate minima
abbrev pub AllowsAlternate : Case → Station → ℕ → Type 0
AllowsAlternate c station minute = Any (IsAtOrAbove c.grounds station minute) (alternate_at c station)

-- the destination is at or above the minima at each minute from an hour before the ETA to an hour after it
abbrev pub StaysAtOrAbove : Grounds → Leg → Pair → Type 0
StaysAtOrAbove g leg minima = (minute : ℕ) → leg.eta ≤ minute + 60 → minute ≤ leg.eta + 60 → IsAtOrAbove g leg.to minute minima

-- A stop before the leg, without another release, has lasted at most this many minutes (14 CFR 121.593, 121.595).
abbrev pub StopsAtMost : ℕ → Phase → ℕ → ℕ → Type 0
StopsAtMost minutes phase number moment = (since : ℕ) → phase ≡ Stopped number since false → moment ≤ since + minutes

-- a ceiling of 2,000 feet and a visibility of 3 statute miles
abbrev pub fair : Pair
fair = record { ceiling = 2_000; vis = 3 * 1_609_344 }

-- A flag flight may go without an alternate. It is scheduled for at most six hours, and the destination stays at or
-- above the airport's floor (14 CFR 121.621(a)(1)).
pub record IsShortAndFair (c : Case) (leg : Leg) : Type 0 where
  pub six_hours : leg.eta ≤ leg.etd + 6 * 60
  pub floor : Pair
  pub is_floor : flag_floor c.grounds.tables c.aircraft leg.to c.limits.lost ≡ Some floor
  pub stays : StaysAtOrAbove c.grounds leg floor

-- the weather at the destination requires no alternate (14 CFR 121.619(a), 121.621(a)(1))
abbrev pub IsFair : Kind → Case → Leg → Type 0
IsFair Domestic c leg = StaysAtOrAbove c.grounds leg fair
IsFair Flag c leg = IsShortAndFair c leg

abbrev pub NeedsAlternate : Case → Leg → Type 0
NeedsAlternate c leg = IsFair c.flight c leg → ⊥

-- An airport within an hour of the departure with one engine inoperative, or within two hours with three engines or
-- more (14 CFR 121.617(a)).
pub record IsNear (c : Case) (leg : Leg) (station : Station) : Type 0 where
  pub miles : ℕ
  pub are_known : miles_of c.grounds.tables leg.from station ≡ Some miles
  pub two_engines : c.aircraft.engines ≤ 2 → miles ≤ c.aircraft.oei_knots
  pub more_engines : 3 ≤ c.aircraft.engines → miles ≤ 2 * c.aircraft.oei_knots

abbrev pub NeedsTakeoffAlternate : Case → Leg → Type 0
NeedsTakeoffAlternate c leg = AllowsLanding c leg.from leg.etd → ⊥

-- minima raised by the margin of marginal weather
abbrev pub with_margin : Settings → Pair → Pair
with_margin settings minima = record { ceiling = minima.ceiling + settings.marginal_ceiling; vis = minima.vis + settings.marginal_vis16 * 100_584 }

-- the weather isn't marginal: it is above one of the minima by the margin
abbrev pub IsBeyondMargin : Case → Station → ℕ → List Pair → Type 0
IsBeyondMargin c station minute minima = Any (λ pair. IsAtOrAbove c.grounds station minute (with_margin c.grounds.tables.settings pair)) minima

-- the destination at the ETA, or the alternate when the aircraft arrives there, isn't marginal (14 CFR 121.619(a))
abbrev pub IsBeyondMarginAtOne : Case → Leg → Alternate → Type 0
IsBeyondMarginAtOne c leg it =
    IsBeyondMargin c leg.to leg.eta (landing_at c leg.to) ⊎ IsBeyondMargin c it.station (leg.eta + it.minutes) (alternate_at c it.station)

-- A deferred item doesn't forbid the leg (14 CFR 121.628). The type's list has it. It allows flag operation, if the
-- flight is flag, and a leg this long. No item deferred earlier excludes it.
pub record IsAllowed (c : Case) (leg : Leg) (d : Deferral) : Type 0 where
  pub row : MelRow
  pub is_listed : item_of c.grounds.tables c.aircraft.kind d.item ≡ Some row
  pub flag : c.flight ≡ Flag → row.flag_ok ≡ true
  pub length : 0 < row.max_minutes → leg.minutes ≤ row.max_minutes
  pub alone : All (λ e. e.id < d.id → are_paired c.grounds.tables c.aircraft.kind e.item d.item ≡ false) c.deferred

-- The ETA is on one of the days that are allowed for the repair of the item, or earlier (14 CFR 121.628).
abbrev pub ArrivesBeforeRepair : Case → Leg → Deferral → Type 0
ArrivesBeforeRepair c leg d = (row : MelRow) → item_of c.grounds.tables c.aircraft.kind d.item ≡ Some row
    → (days : ℕ) → LeavesDays row.category row.days days → leg.eta / 1440 ≤ d.found / 1440 + days

-- the type may use the destination, the alternates and, before departure, the takeoff alternate (14 CFR 121.631)
pub record MayUseAirports (c : Case) (ahead : Type 0) (leg : Leg) : Type 0 where
  pub destination : may_use c.grounds.tables c.aircraft.kind leg.to ≡ true
  pub alternates : All (λ it. may_use c.grounds.tables c.aircraft.kind it.station ≡ true) leg.alternates
  pub takeoff : ahead → (it : TakeoffAlternate) → leg.takeoff_alternate ≡ Some it → may_use c.grounds.tables c.aircraft.kind it.station ≡ true

-- The minimum fuel covers the flight to the destination, the factors of 14 CFR 121.647, the reserve and open
-- deferrals. If an alternate is needed, it also covers the flight to the most distant one.
pub record IsWithinMinimum (c : Case) (leg : Leg) (reserve : ℕ) : Type 0 where
  pub to_destination : leg.burn + leg.extra + reserve + c.limits.extra_fuel ≤ leg.minimum
  pub to_each_alternate : NeedsAlternate c leg → All (λ it. leg.burn + leg.extra + it.fuel + reserve + c.limits.extra_fuel ≤ leg.minimum) leg.alternates

-- the minimum fuel is enough with a reserve of 45 minutes at normal cruising fuel consumption (14 CFR 121.639(c))
pub record HasCruiseReserve (c : Case) (leg : Leg) : Type 0 where
  pub pounds : ℕ
  pub last : c.aircraft.cruise_pph * 45 ≤ pounds * 60
  pub within : IsWithinMinimum c leg pounds

-- the minimum fuel is enough with a reserve of 10 percent of the time to the destination and 30 minutes of holding
-- (14 CFR 121.645(b))
pub record HasHoldingReserve (c : Case) (leg : Leg) : Type 0 where
  pub tenth : ℕ
  pub lasts_tenth : c.aircraft.cruise_pph * leg.minutes ≤ tenth * 600
  pub holding : ℕ
  pub lasts_holding : c.aircraft.hold_pph * 30 ≤ holding * 60
  pub within : IsWithinMinimum c leg (tenth + holding)

-- an alternate is needed and none is listed, as the route allows (14 CFR 121.621(a)(2))
pub record GoesWithout (c : Case) (leg : Leg) : Type 0 where
  pub needs : NeedsAlternate c leg
  pub lists_none : leg.alternates ≡ []
  pub is_free : route_free c.grounds.tables leg.from leg.to ≡ true

-- The fuel of a flag flight. On a route without an alternate it lasts two hours beyond the destination at normal
-- cruising consumption (14 CFR 121.645(c)). Within the 48 states it is that of a domestic flight (14 CFR 121.645(a)).
pub record HasFlagFuel (c : Case) (leg : Leg) : Type 0 where
  pub without_alternate : GoesWithout c leg → leg.burn + leg.extra + 2 * c.aircraft.cruise_pph + c.limits.extra_fuel ≤ leg.minimum
  pub within_states : (GoesWithout c leg → ⊥) → is_within_states c.grounds.tables leg ≡ true → HasCruiseReserve c leg
  pub beyond_states : (GoesWithout c leg → ⊥) → is_within_states c.grounds.tables leg ≡ false → HasHoldingReserve c leg

-- no finding names the rule for this leg
abbrev pub IsSilent : List Finding → Rule → ℕ → Type 0
IsSilent fs rule number = (place : ℕ) → Contains fs (finding rule number place) → ⊥

-- the leg that departs next: the first one, or the one before which the flight has stopped
pub data DepartsNext : Phase → ℕ → Type 0 where
  first_of_draft : DepartsNext Drafted 1
  first : DepartsNext Ready 1
  after_stop : {next since : ℕ} {again : Bool} → DepartsNext (Stopped next since again) next

-- each rule of time is silent on the leg exactly if the leg satisfies it
pub record FollowsTime (plan : Plan) (phase : Phase) (g : Grounds) (fs : List Finding) (number : ℕ) (leg : Leg) : Type 0 where
  pub domestic_stop : IsSilent fs No1 number ↔ (plan.kind ≡ Domestic → StopsAtMost 60 phase number g.moment)
  pub flag_stop : IsSilent fs No2 number ↔ (plan.kind ≡ Flag → StopsAtMost (6 * 60) phase number g.moment)
  pub departure : IsSilent fs No17 number ↔ (DepartsNext phase number → g.moment ≤ leg.etd + g.tables.settings.late_off)
  pub arrival : IsSilent fs No18 number ↔ (phase ≡ Flying number → g.moment ≤ leg.eta + g.tables.settings.late_on)

-- each other rule is silent on a leg that isn't flown exactly if the leg satisfies its section
pub record FollowsSections (c : Case) (fs : List Finding) (number : ℕ) (leg : Leg) (ahead : Type 0) : Type 0 where
  pub landing : IsSilent fs No3 number ↔ AllowsArrival c leg.to leg.eta
  pub domestic_alternate : IsSilent fs No7 number ↔ (c.flight ≡ Domestic → NeedsAlternate c leg → 0 < length leg.alternates)
  pub second_alternate : IsSilent fs No8 number ↔ (c.flight ≡ Domestic → NeedsAlternate c leg → (it : Alternate) → leg.alternates ≡ it ∷ [] → IsBeyondMarginAtOne c leg it)
  pub flag_alternate : IsSilent fs No9 number ↔ (c.flight ≡ Flag → NeedsAlternate c leg → leg.alternates ≡ [] → route_free c.grounds.tables leg.from leg.to ≡ true)
  pub alternates : IsSilent fs No10 number ↔ All (λ it. AllowsAlternate c it.station (leg.eta + it.minutes)) leg.alternates
  pub airports : IsSilent fs No13 number ↔ MayUseAirports c ahead leg
  pub domestic_fuel : IsSilent fs No14 number ↔ (c.flight ≡ Domestic → HasCruiseReserve c leg)
  pub flag_fuel : IsSilent fs No15 number ↔ (c.flight ≡ Flag → HasFlagFuel c leg)
  pub aboard : IsSilent fs No16 number ↔ (leg.minimum ≤ leg.onboard)

-- the same for the rules that judge only legs that haven't departed
pub record FollowsDeparture (c : Case) (fs : List Finding) (number : ℕ) (leg : Leg) : Type 0 where
  pub takeoff_alternate : IsSilent fs No4 number ↔ (NeedsTakeoffAlternate c leg → leg.takeoff_alternate ≡ None → ⊥)
  pub takeoff_range : IsSilent fs No5 number ↔ (NeedsTakeoffAlternate c leg → (it : TakeoffAlternate) → leg.takeoff_alternate ≡ Some it → IsNear c leg it.station)
  pub takeoff_weather : IsSilent fs No6 number ↔ (NeedsTakeoffAlternate c leg → (it : TakeoffAlternate) → leg.takeoff_alternate ≡ Some it → AllowsAlternate c it.station (leg.etd + it.minutes))
  pub deferred : IsSilent fs No11 number ↔ All (IsAllowed c leg) c.deferred
  pub repair : IsSilent fs No12 number ↔ All (ArrivesBeforeRepair c leg) c.deferred

-- A leg of a plan that passes its tests and whose aircraft has a type.
pub record IsJudged (plan : Plan) (g : Grounds) (number : ℕ) (leg : Leg) (aircraft : TypeRow) : Type 0 where
  pub stands : leg_numbered number 1 plan.legs ≡ Some leg
  pub passes : plan_fault g.tables plan ≡ None
  pub has_type : type_of g.tables plan.tail ≡ Some aircraft

-- the tables allow the leg of this number, after the leg before it
abbrev pub IsLegAllowed : Plan → Grounds → ℕ → Type 0
IsLegAllowed plan g number = (leg : Leg) → leg_numbered number 1 plan.legs ≡ Some leg → MayFollow g.tables (leg_numbered (number - 1) 1 plan.legs) leg

-- The rule of the tables names only the first thing that they don't allow. Leg 0 is the plan as a whole: the aircraft,
-- its type, the captain and the number of legs.
pub record FollowsTables (plan : Plan) (g : Grounds) (fs : List Finding) : Type 0 where
  pub whole : IsSilent fs No19 0 ↔ (IsOfAirline g.tables plan × (((number : ℕ) → IsLegAllowed plan g number) → IsSome (type_of g.tables plan.tail)))
  pub legs : (number : ℕ) → 0 < number
      → IsSilent fs No19 number ↔ (IsOfAirline g.tables plan → ((earlier : ℕ) → earlier < number → IsLegAllowed plan g earlier) → IsLegAllowed plan g number)

-- The findings on a plan are silent on a rule and a leg exactly if the leg does what the section requires.
pub record FollowRegulation (plan : Plan) (phase : Phase) (g : Grounds) (fs : List Finding) : Type 0 where
  pub time : (number : ℕ) (leg : Leg) → leg_numbered number 1 plan.legs ≡ Some leg → FollowsTime plan phase g fs number leg
  pub not_flown : (number : ℕ) (leg : Leg) (aircraft : TypeRow) → IsJudged plan g number leg aircraft → (standing phase number ≡ Flown → ⊥)
      → FollowsSections (case_of g plan aircraft) fs number leg (standing phase number ≡ Ahead)
  pub ahead : (number : ℕ) (leg : Leg) (aircraft : TypeRow) → IsJudged plan g number leg aircraft → standing phase number ≡ Ahead
      → FollowsDeparture (case_of g plan aircraft) fs number leg
  -- for a captain with 100 hours in the type, the landing minima alone decide about the destination (14 CFR 121.613)
  pub experienced : (number : ℕ) (leg : Leg) (aircraft : TypeRow) → IsJudged plan g number leg aircraft → (standing phase number ≡ Flown → ⊥)
      → 100 ≤ hours_of g.tables plan.captain aircraft.kind → IsSilent fs No3 number ↔ AllowsLanding (case_of g plan aircraft) leg.to leg.eta
  pub tables : FollowsTables plan g fs

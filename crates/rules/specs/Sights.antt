-- What all rules find on a leg, in one record, and the findings from it.
use Rattle.std.specs.Prelude.{◌≡◌, ℕ, ◌+◌, ◌≤◌, Bool, true, false, ◌&&◌, if◌then◌else◌, List, [], ◌∷◌, ◌++◌, map, Option, None, Some, is_none}
use Rattle.std.specs.List.{list_all}
use Rattle.std.specs.Option.{option_copied}
use Rattle.desk_io.specs.Station.{Station}
use Rattle.codes.specs.Cond.{lesser}
use Rattle.facts.specs.Latest.{metar_latest, taf_latest}
use Rattle.deferrals.specs.declared.items.Deferral.{Deferral}
use Rattle.plan.specs.Phases.{standing}
use Rattle.plan.specs.declared.flights.Plan.{Plan}
use Rattle.plan.specs.declared.flights.Leg.{Leg}
use Rattle.plan.specs.declared.flights.Alternate.{Alternate}
use Rattle.plan.specs.declared.flights.TakeoffAlternate.{TakeoffAlternate}
use Rattle.plan.specs.declared.release.Phase.{Phase}
use Rattle.plan.specs.declared.release.Standing.{Standing}
use Rattle.plan.specs.declared.release.Standing.TheVariants.{Ahead, InFlight, Flown}
use Rattle.plan.specs.declared.findings.Finding.{Finding}
use Rattle.plan.specs.declared.findings.Rule.{Rule}
use Rattle.plan.specs.declared.findings.Rule.TheVariants.{No1, No2, No3, No4, No5, No6, No7, No8, No9, No10, No11, No12, No13, No14, No15, No16, No17, No18, No19}
use Rattle.rules.specs.Grounds.{Grounds, grounds_of}
use Rattle.rules.specs.Circumstances.{Case, is_below_alternate}
use Rattle.rules.specs.Weather.{is_below_landing}
use Rattle.rules.specs.TakeoffAlternates.{needs_takeoff_alternate, is_far, is_below_there}
use Rattle.rules.specs.DestinationAlternates.{place_if, needs_alternate, lacks_domestic_alternate, lacks_second_alternate, lacks_flag_alternate, is_marginal_at, low_alternates}
use Rattle.rules.specs.Equipment.{is_limiting, is_overdue, limiting, overdue, barred}
use Rattle.rules.specs.Fuel.{does_without, is_short_domestic, is_short_flag, is_underfilled}
use Rattle.rules.specs.Time.{limit_of, is_late}
use Rattle.rules.specs.Judgement.{finding}
use Rattle.rules.specs.Due.{due_after, with_past}
use Rattle.rules.specs.declared.circumstances.Circumstances.{Circumstances}
use Rattle.rules.specs.declared.weather.Reported.{Reported}
use Rattle.rules.specs.declared.takeoff_alternates.Takeoff.{Takeoff}
use Rattle.rules.specs.declared.destination_alternates.Need.{Need}
use Rattle.rules.specs.declared.destination_alternates.There.{There}
use Rattle.rules.specs.declared.destination_alternates.AllThere.{AllThere}
use Rattle.rules.specs.declared.destination_alternates.Arrival.{Arrival}
use Rattle.rules.specs.declared.equipment.OfDeferral.{OfDeferral}
use Rattle.rules.specs.declared.equipment.Deferred.{Deferred}
use Rattle.rules.specs.declared.equipment.Equipment.{Equipment}
use Rattle.rules.specs.declared.required_fuel.Fuel.{Fuel}
use Rattle.rules.specs.declared.time.Limit.{Limit}
use Rattle.rules.specs.declared.time.Times.{Times}
use Rattle.rules.specs.declared.time.Late.{Late}
use Rattle.rules.specs.declared.sights.Seen.{Seen}
use Rattle.rules.specs.declared.sights.Sight.{Sight}

-- the case of these circumstances
abbrev pub case_by : Circumstances → Case
case_by c = record { grounds = grounds_of c.evidence; flight = c.flight; aircraft = c.aircraft.now; hours = c.hours; deferred = map (λ d. d.now) c.deferred.items; limits = c.limits }

-- the aircraft and the deferrals are within their bounds
pub record IsWithin (c : Circumstances) : Type 0 where
  pub knots : c.aircraft.now.oei_knots ≤ 1000
  pub extra_fuel : c.limits.extra_fuel ≤ 5_000_000_000

-- `reported` are the latest reports of the station
pub record IsReported (g : Grounds) (station : Station) (reported : Reported) : Type 0 where
  pub taf : option_copied reported.taf ≡ taf_latest g.reports station
  pub metar : option_copied reported.metar ≡ metar_latest g.reports station
  pub hold : reported.hold ≡ g.tables.settings.hold_minutes
  pub within : reported.hold ≤ 1440

-- the rules on takeoff alternates, given whether one is needed and which is listed
abbrev pub takeoff_by : Bool → Case → Leg → Option TakeoffAlternate → Takeoff
takeoff_by needed c leg listed = record { lacks = needed && is_none listed; is_far = needed && is_far c leg listed; is_low = needed && is_below_there c leg listed }

-- the same for the takeoff alternate that the leg lists
abbrev pub takeoff_where : Bool → Case → Leg → Takeoff
takeoff_where needed c leg = takeoff_by needed c leg leg.takeoff_alternate

abbrev pub takeoff_of : Case → Leg → Takeoff
takeoff_of c leg = takeoff_where (needs_takeoff_alternate c leg) c leg

abbrev pub lists_one : List Alternate → Bool
lists_one [] = false
lists_one (it ∷ []) = true
lists_one (it ∷ other ∷ rest) = false

abbrev pub need_of : Case → Leg → Need
need_of c leg =
    record { is_needed = needs_alternate c leg; lacks_domestic = lacks_domestic_alternate c leg; lacks_flag = lacks_flag_alternate c leg; does_without = does_without c leg }

abbrev pub there_of : Case → Leg → Alternate → There
there_of c leg it = record { is_low = is_below_alternate c it.station (leg.eta + it.minutes); is_marginal = is_marginal_at c leg it }

abbrev pub all_there_of : Case → Leg → AllThere
all_there_of c leg = record { low = low_alternates c leg; are_marginal = list_all (is_marginal_at c leg) leg.alternates }

abbrev pub arrival_of : Case → Leg → Arrival
arrival_of c leg =
    record { is_below_landing = is_below_landing c leg; need = need_of c leg; lacks_second = lacks_second_alternate c leg; low = low_alternates c leg }

abbrev pub of_deferral : Case → Leg → Deferral → OfDeferral
of_deferral c leg d = record { is_limiting = is_limiting c leg d; is_overdue = is_overdue c leg d }

abbrev pub limits_of_leg : Case → Leg → Deferred
limits_of_leg c leg = record { limiting = limiting c leg; overdue = overdue c leg }

-- the rules on deferred equipment don't judge a leg that has departed
abbrev pub where_ahead : Bool → List ℕ → List ℕ
where_ahead ahead places = if ahead then places else []

abbrev pub equipment_of : Case → Bool → Leg → Equipment
equipment_of c ahead leg = record { limiting = where_ahead ahead (limiting c leg); overdue = where_ahead ahead (overdue c leg); barred = barred c ahead leg }

abbrev pub fuel_of : Case → Leg → Fuel
fuel_of c leg = record { is_short_domestic = is_short_domestic c leg; is_short_flag = is_short_flag c leg; is_underfilled = is_underfilled leg }

abbrev pub no_takeoff : Takeoff
no_takeoff = record { lacks = false; is_far = false; is_low = false }

-- what the rules find on a leg that isn't flown
abbrev pub seen_of : Case → Bool → Leg → Seen
seen_of c ahead leg =
    record { takeoff = if ahead then takeoff_of c leg else no_takeoff; arrival = arrival_of c leg; equipment = equipment_of c ahead leg; fuel = fuel_of c leg }

abbrev pub no_need : Need
no_need = record { is_needed = false; lacks_domestic = false; lacks_flag = false; does_without = false }

-- nothing is found on a flown leg, or in a plan that fails its tests
abbrev pub clear : Seen
clear = record {
  takeoff = no_takeoff;
  arrival = record { is_below_landing = false; need = no_need; lacks_second = false; low = [] };
  equipment = record { limiting = []; overdue = []; barred = [] };
  fuel = record { is_short_domestic = false; is_short_flag = false; is_underfilled = false };
}

abbrev pub seen_at : Case → Standing → Leg → Seen
seen_at c Ahead leg = seen_of c true leg
seen_at c InFlight leg = seen_of c false leg
seen_at c Flown leg = clear

-- the same in the case, if there is one
abbrev pub seen_in : Option Case → Standing → Leg → Seen
seen_in None standing leg = clear
seen_in (Some c) standing leg = seen_at c standing leg

-- the last minute that the limit allows
abbrev pub last_of : Limit → ℕ
last_of limit = limit.since + limit.minutes

-- the rules of time that leg n fails
abbrev pub late_of : Times → ℕ → Leg → Late
late_of times n leg = record {
  domestic_stop = is_late No1 times.settings times.flight times.phase n leg times.moment;
  flag_stop = is_late No2 times.settings times.flight times.phase n leg times.moment;
  departure = is_late No17 times.settings times.flight times.phase n leg times.moment;
  arrival = is_late No18 times.settings times.flight times.phase n leg times.moment;
}

abbrev pub times_of : Plan → Phase → Grounds → Times
times_of plan phase g = record { settings = g.tables.settings; flight = plan.kind; phase = phase; moment = g.moment }

-- the first minute after the moment at which leg n begins to fail a rule of time
abbrev pub due_by : Rule → Times → ℕ → Leg → Option ℕ
due_by rule times n leg = due_after times.moment (limit_of rule times.settings times.flight times.phase n leg)

abbrev pub due_of : Times → ℕ → Leg → Option ℕ
due_of times n leg = lesser (due_by No1 times n leg) (lesser (due_by No2 times n leg) (lesser (due_by No17 times n leg) (due_by No18 times n leg)))

-- the first such minute of these legs, if the first leg has number n
abbrev pub first_due : Times → ℕ → List Leg → Option ℕ
first_due times n [] = None
first_due times n (leg ∷ legs) = lesser (due_of times n leg) (first_due times (n + 1) legs)

-- the minutes, and then the first minute past each limit of leg n
abbrev pub dues_of : Times → ℕ → List ℕ → Leg → List ℕ
dues_of times n minutes leg =
    let limit : Rule → Option ℕ = λ rule. limit_of rule times.settings times.flight times.phase n leg in
    with_past (with_past (with_past (with_past minutes (limit No1)) (limit No2)) (limit No17)) (limit No18)

-- the same for all these legs, if the first has number n
abbrev pub all_dues : Times → ℕ → List ℕ → List Leg → List ℕ
all_dues times n minutes [] = minutes
all_dues times n minutes (leg ∷ legs) = all_dues times (n + 1) (dues_of times n minutes leg) legs

-- what all rules find on leg n
abbrev pub sight_of : Times → Option Case → ℕ → Leg → Sight
sight_of times c n leg = record { late = late_of times n leg; seen = seen_in c (standing times.phase n) leg }

-- what all rules find on each leg, if the first leg has number n
abbrev pub sights_from : Times → Option Case → ℕ → List Leg → List Sight
sights_from times c n [] = []
sights_from times c n (leg ∷ legs) = sight_of times c n leg ∷ sights_from times c (n + 1) legs

abbrev pub whole_if : Bool → List ℕ
whole_if fails = place_if fails 0

-- the places at which the leg fails the rule
abbrev pub places_in : Rule → Sight → List ℕ
places_in No1 s = whole_if s.late.domestic_stop
places_in No2 s = whole_if s.late.flag_stop
places_in No3 s = whole_if s.seen.arrival.is_below_landing
places_in No4 s = whole_if s.seen.takeoff.lacks
places_in No5 s = whole_if s.seen.takeoff.is_far
places_in No6 s = whole_if s.seen.takeoff.is_low
places_in No7 s = whole_if s.seen.arrival.need.lacks_domestic
places_in No8 s = whole_if s.seen.arrival.lacks_second
places_in No9 s = whole_if s.seen.arrival.need.lacks_flag
places_in No10 s = s.seen.arrival.low
places_in No11 s = s.seen.equipment.limiting
places_in No12 s = s.seen.equipment.overdue
places_in No13 s = s.seen.equipment.barred
places_in No14 s = whole_if s.seen.fuel.is_short_domestic
places_in No15 s = whole_if s.seen.fuel.is_short_flag
places_in No16 s = whole_if s.seen.fuel.is_underfilled
places_in No17 s = whole_if s.late.departure
places_in No18 s = whole_if s.late.arrival
places_in No19 s = []

-- the findings of a rule, leg by leg, if the first leg has number n
abbrev pub findings_in : Rule → ℕ → List Sight → List Finding
findings_in rule n [] = []
findings_in rule n (sight ∷ sights) = map (finding rule n) (places_in rule sight) ++ findings_in rule (n + 1) sights

-- the findings, rule by rule
abbrev pub findings_in_all : List Rule → List Sight → List Finding
findings_in_all [] sights = []
findings_in_all (rule ∷ rules) sights = findings_in rule 1 sights ++ findings_in_all rules sights

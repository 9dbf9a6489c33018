-- The rules on takeoff alternates (14 CFR 121.617).
use Rattle.std.specs.Prelude.{◌+◌, Bool, false, not, ◌&&◌, Option, None, Some, is_none}
use Rattle.ops_tables.specs.Tables.{miles_of}
use Rattle.plan.specs.declared.flights.Leg.{Leg}
use Rattle.plan.specs.declared.flights.TakeoffAlternate.{TakeoffAlternate}
use Rattle.plan.specs.AlternateNeeds.{needs_takeoff, in_range}
use Rattle.rules.specs.Circumstances.{Case, weather_at, landing_at, is_below_alternate}

-- the departure is below landing minima at the ETD, so a takeoff alternate is needed
abbrev pub needs_takeoff_alternate : Case → Leg → Bool
needs_takeoff_alternate c leg = needs_takeoff (weather_at c.grounds leg.from leg.etd) (landing_at c leg.from)

-- A takeoff alternate is needed and none is listed (14 CFR 121.617(a)).
abbrev pub lacks_takeoff_alternate : Case → Leg → Bool
lacks_takeoff_alternate c leg = needs_takeoff_alternate c leg && is_none leg.takeoff_alternate

-- the takeoff alternate is too far from the departure with one engine inoperative
abbrev pub is_far : Case → Leg → Option TakeoffAlternate → Bool
is_far c leg None = false
is_far c leg (Some it) = not (in_range c.aircraft.engines c.aircraft.oei_knots (miles_of c.grounds.tables leg.from it.station))

-- A takeoff alternate is needed and the listed one is too far away (14 CFR 121.617(a)(1), (2)).
abbrev pub has_far_takeoff_alternate : Case → Leg → Bool
has_far_takeoff_alternate c leg = needs_takeoff_alternate c leg && is_far c leg leg.takeoff_alternate

-- the takeoff alternate is below its alternate minima when the aircraft arrives there from the departure
abbrev pub is_below_there : Case → Leg → Option TakeoffAlternate → Bool
is_below_there c leg None = false
is_below_there c leg (Some it) = is_below_alternate c it.station (leg.etd + it.minutes)

-- A takeoff alternate is needed and the listed one is below its alternate minima (14 CFR 121.617(b)).
abbrev pub has_low_takeoff_alternate : Case → Leg → Bool
has_low_takeoff_alternate c leg = needs_takeoff_alternate c leg && is_below_there c leg leg.takeoff_alternate

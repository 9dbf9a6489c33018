-- The lines that compare the weather at an airport with minima (14 CFR 121.613, 121.617, 121.625, 121.652).
use Rattle.std.specs.Prelude.{ℕ, ◌+◌, Bool, true, false, List, [], ◌∷◌, Option, None, Some}
use Rattle.desk_io.specs.Station.{Station}
use Rattle.desk_io.specs.declared.pair.Pair.{Pair}
use Rattle.airport_minima.specs.Raised.{raised}
use Rattle.ops_tables.specs.Tables.{miles_of}
use Rattle.plan.specs.declared.findings.Rule.TheVariants.{No3, No4, No5, No6, No10}
use Rattle.plan.specs.declared.flights.Leg.{Leg}
use Rattle.plan.specs.declared.flights.Alternate.{Alternate}
use Rattle.plan.specs.declared.flights.TakeoffAlternate.{TakeoffAlternate}
use Rattle.plan.specs.AlternateNeeds.{range}
use Rattle.weather_window.specs.Values.{ceiling, visibility}
use Rattle.rules.specs.Circumstances.{Case, weather_at, landing_at, alternate_at, arrival_minima}
use Rattle.rules.specs.TakeoffAlternates.{needs_takeoff_alternate}
use Rattle.sheet.specs.declared.lines.Line.{Line}
use Rattle.sheet.specs.declared.lines.Compared.TheVariants as compared
use Rattle.sheet.specs.declared.lines.WeatherAt.{WeatherAt}
use Rattle.sheet.specs.declared.lines.Departure.{Departure}
use Rattle.sheet.specs.declared.lines.Range.{Range}
use Rattle.sheet.specs.declared.lines.Origin.{Origin}
use Rattle.sheet.specs.Lines.{line, numbered}
use Rattle.sheet.specs.Origins.{landing_origins, alternate_origins, arrival_origins}
use Rattle.sheet.specs.Sources.{source_at}

-- the landing minima as raised for a captain with few hours in the type
abbrev pub raised_at : Case → Station → List Pair
raised_at c station = raised (landing_at c station) (alternate_at c station)

-- the controlling weather at a station at a minute with its sources, and the minima with which it is compared
abbrev pub weather_with : Case → Station → ℕ → List Pair → List Origin → WeatherAt
weather_with c station minute minima origins = record {
  station = station;
  minute = minute;
  weather = weather_at c.grounds station minute;
  ceiling_from = source_at ceiling c.grounds station minute;
  vis_from = source_at visibility c.grounds station minute;
  minima = minima;
  origins = origins;
}

-- the destination at the ETA, with the landing minima that hold for the captain
abbrev pub at_destination : Case → Leg → WeatherAt
at_destination c leg = weather_with c leg.to leg.eta (arrival_minima c leg.to) (arrival_origins c leg.to)

-- a station at a minute, with its landing minima, which no captain's hours raise
abbrev pub at_landing : Case → Station → ℕ → WeatherAt
at_landing c station minute = weather_with c station minute (landing_at c station) (landing_origins c station)

-- the departure at the ETD
abbrev pub at_departure : Case → Leg → WeatherAt
at_departure c leg = at_landing c leg.from leg.etd

-- an alternate at a minute, with its alternate minima
abbrev pub at_alternate : Case → Station → ℕ → WeatherAt
at_alternate c station minute = weather_with c station minute (alternate_at c station) (alternate_origins c station)

-- the weather at the destination (14 CFR 121.613, 121.652)
abbrev pub landing_lines : Case → ℕ → Leg → List Line
landing_lines c n leg = line No3 n 0 (compared.Weather (at_destination c leg)) ∷ []

abbrev pub station_of : Option TakeoffAlternate → Option Station
station_of None = None
station_of (Some it) = Some it.station

abbrev pub departure : Case → Leg → Departure
departure c leg = record { there = at_departure c leg; listed = station_of leg.takeoff_alternate }

-- the weather at the departure, and the takeoff alternate that is listed (14 CFR 121.617(a))
abbrev pub departure_lines : Case → ℕ → Leg → List Line
departure_lines c n leg = line No4 n 0 (compared.Takeoff (departure c leg)) ∷ []

-- the line of the takeoff alternate, if one is needed and listed
abbrev pub of_takeoff : (TakeoffAlternate → Line) → Bool → Option TakeoffAlternate → List Line
of_takeoff at false listed = []
of_takeoff at true None = []
of_takeoff at true (Some it) = at it ∷ []

abbrev pub range_of : Case → Leg → TakeoffAlternate → Range
range_of c leg it = record {
  station = it.station;
  miles = miles_of c.grounds.tables leg.from it.station;
  engines = c.aircraft.engines;
  knots = c.aircraft.oei_knots;
  allowed = range c.aircraft.engines c.aircraft.oei_knots;
}

abbrev pub range_line : Case → ℕ → Leg → TakeoffAlternate → Line
range_line c n leg it = line No5 n 0 (compared.Distance (range_of c leg it))

-- the distance to the takeoff alternate (14 CFR 121.617(a)(1), (2))
abbrev pub range_lines : Case → ℕ → Leg → List Line
range_lines c n leg = of_takeoff (range_line c n leg) (needs_takeoff_alternate c leg) leg.takeoff_alternate

abbrev pub takeoff_weather : Case → ℕ → Leg → TakeoffAlternate → Line
takeoff_weather c n leg it = line No6 n 0 (compared.Weather (at_alternate c it.station (leg.etd + it.minutes)))

-- the weather at the takeoff alternate (14 CFR 121.617(b))
abbrev pub takeoff_lines : Case → ℕ → Leg → List Line
takeoff_lines c n leg = of_takeoff (takeoff_weather c n leg) (needs_takeoff_alternate c leg) leg.takeoff_alternate

abbrev pub alternate_weather : Case → ℕ → Leg → ℕ → Alternate → Line
alternate_weather c n leg place it = line No10 n place (compared.Weather (at_alternate c it.station (leg.eta + it.minutes)))

-- the weather at each listed alternate (14 CFR 121.625)
abbrev pub alternate_lines : Case → ℕ → Leg → List Line
alternate_lines c n leg = numbered (alternate_weather c n leg) 1 leg.alternates

-- The stations that a release concerns: the airports of its legs that aren't flown (14 CFR 121.687).
use Rattle.std.specs.Prelude.{◌≡◌, ℕ, ◌+◌, Bool, false, IsTrue, if◌then◌else◌, List, [], ◌∷◌, ◌++◌, map, Option, None, Some}
use Rattle.std.specs.List.{AllByRecursion, list_any}
use Rattle.std.specs.Str.{bytes_eq}
use Rattle.desk_io.specs.Station.{Station}
use Rattle.plan.specs.declared.flights.Plan.{Plan}
use Rattle.plan.specs.declared.flights.Leg.{Leg}
use Rattle.plan.specs.declared.flights.Alternate.{Alternate}
use Rattle.plan.specs.declared.flights.TakeoffAlternate.{TakeoffAlternate}
use Rattle.plan.specs.declared.release.Phase.{Phase}
use Rattle.plan.specs.declared.release.Standing.{Standing}
use Rattle.plan.specs.declared.release.Standing.TheVariants.{Ahead, InFlight, Flown}
use Rattle.plan.specs.Phases.{standing}

abbrev pub takeoff_station : Option TakeoffAlternate → List Station
takeoff_station None = []
takeoff_station (Some alternate) = alternate.station ∷ []

-- the departure, and the takeoff alternate if one is listed
abbrev pub departure_stations : Leg → List Station
departure_stations leg = leg.from ∷ takeoff_station leg.takeoff_alternate

abbrev pub alternate_stations : List Alternate → List Station
alternate_stations alternates = map (λ a. a.station) alternates

-- the destination and then the alternates
abbrev pub arrival_stations : Leg → List Station
arrival_stations leg = leg.to ∷ alternate_stations leg.alternates

-- The stations that a leg concerns: all of them if it hasn't departed, in flight those at which it may end.
abbrev pub leg_stations : Standing → Leg → List Station
leg_stations Ahead leg = departure_stations leg ++ arrival_stations leg
leg_stations InFlight leg = arrival_stations leg
leg_stations Flown leg = []

-- the stations that each leg concerns, if the first leg has number n
abbrev pub stations_from : Phase → ℕ → List Leg → List Station
stations_from phase n [] = []
stations_from phase n (leg ∷ legs) = leg_stations (standing phase n) leg ++ stations_from phase (n + 1) legs

abbrev pub is_among : List Station → Station → Bool
is_among stations station = list_any (λ other. bytes_eq other station) stations

-- the stations, with one more at the end unless it is already there
abbrev pub with_station : List Station → Station → List Station
with_station found station = if is_among found station then found else found ++ station ∷ []

-- the stations, with each of the others that isn't there yet, at its first place
abbrev pub with_stations : List Station → List Station → List Station
with_stations found [] = found
with_stations found (station ∷ stations) = with_stations (with_station found station) stations

-- the stations that a release concerns, without duplicates, in the order of their first place
unfoldable pub concerned : Plan → Phase → List Station
concerned plan phase = with_stations [] (stations_from phase 1 plan.legs)

-- no station occurs twice
abbrev pub AreDistinct : List Station → Type 0
AreDistinct [] = Unit {0}
AreDistinct (station ∷ stations) = AllByRecursion (λ other. bytes_eq station other ≡ false) stations × AreDistinct stations

-- each of the stations is among the others
abbrev pub AreAmong : List Station → List Station → Type 0
AreAmong others stations = AllByRecursion (λ station. IsTrue (is_among others station)) stations

-- The stations are exactly those of the list `every`, without duplicates.
pub record AreOnceEach (every stations : List Station) : Type 0 where
  pub distinct : AreDistinct stations
  pub all : AreAmong stations every
  pub only : AreAmong every stations

-- The sheet in words: one line for each comparison.
use Rattle.std.specs.Prelude.{ℕ, ◌+◌, ◌/◌, ◌==◌, nat_le, Bool, true, false, ◌&&◌, if◌then◌else◌, List, [], ◌∷◌, ◌++◌, Option, None, Some, codes, decimal}
use Rattle.std.specs.List.{concat}
use Rattle.desk_io.specs.Station.{Station}
use Rattle.desk_io.specs.declared.pair.Pair.{Pair}
use Rattle.desk_time.specs.Limits.{first_moment, last_shown}
use Rattle.desk_time.specs.Moments.{shown}
use Rattle.plan.specs.Texts.{finding_text}
use Rattle.plan.specs.declared.check.PlanWhy.{PlanWhy}
use Rattle.plan.specs.declared.check.PlanWhy.TheVariants as why
use Rattle.plan.specs.declared.fuel.Basis.{Basis}
use Rattle.plan.specs.declared.fuel.Basis.TheVariants as basis
use Rattle.sheet.specs.declared.lines.Allowance.{Allowance}
use Rattle.sheet.specs.declared.lines.AlternateNeed.{AlternateNeed}
use Rattle.sheet.specs.declared.lines.AlternateOrigin.{AlternateOrigin}
use Rattle.sheet.specs.declared.lines.AlternateOrigin.TheVariants as alternate
use Rattle.sheet.specs.declared.lines.AirportUse.{AirportUse}
use Rattle.sheet.specs.declared.lines.Compared.{Compared}
use Rattle.sheet.specs.declared.lines.Compared.TheVariants as compared
use Rattle.sheet.specs.declared.lines.Departure.{Departure}
use Rattle.sheet.specs.declared.lines.Elapsed.{Elapsed}
use Rattle.sheet.specs.declared.lines.FuelSum.{FuelSum}
use Rattle.sheet.specs.declared.lines.ItemLimit.{ItemLimit}
use Rattle.sheet.specs.declared.lines.Line.{Line}
use Rattle.sheet.specs.declared.lines.OnBoard.{OnBoard}
use Rattle.sheet.specs.declared.lines.Origin.{Origin}
use Rattle.sheet.specs.declared.lines.Origin.TheVariants as origin
use Rattle.sheet.specs.declared.lines.Range.{Range}
use Rattle.sheet.specs.declared.lines.Repair.{Repair}
use Rattle.sheet.specs.declared.lines.Second.{Second}
use Rattle.sheet.specs.declared.lines.Source.{Source}
use Rattle.sheet.specs.declared.lines.TablesFault.{TablesFault}
use Rattle.sheet.specs.declared.lines.TablesFault.TheVariants as tables
use Rattle.sheet.specs.declared.lines.WeatherAt.{WeatherAt}
use Rattle.sheet.specs.declared.nearest.Miss.{Miss}
use Rattle.sheet.specs.Lines.{holds, is_needed, key}
use Rattle.sheet.specs.Nearest.{nearest_of, is_nothing}

-- a moment, such as 2025-03-12T17:00Z; one that can't be printed so, in minutes since 1970
abbrev pub moment_text : ℕ → List ℕ
moment_text at = if nat_le first_moment at && nat_le at last_shown then shown at else decimal at

-- a number and its unit
abbrev pub with_unit : ℕ → List ℕ → List ℕ
with_unit n unit = concat (decimal n ∷ unit ∷ [])

-- a number and its unit, or that it is unknown
abbrev pub known_text : Option ℕ → List ℕ → List ℕ
known_text None unit = codes "unknown"
known_text (Some n) unit = with_unit n unit

-- a number, or that there is none
abbrev pub number_text : Option ℕ → List ℕ
number_text None = codes "none"
number_text (Some n) = decimal n

-- two words, each with a number after it
abbrev pub two_numbers : List ℕ → ℕ → List ℕ → ℕ → List ℕ
two_numbers one first two second = concat (one ∷ decimal first ∷ two ∷ decimal second ∷ [])

-- whole sixteenths of a statute mile, rounded down
abbrev pub sixteenths_text : ℕ → List ℕ
sixteenths_text vis = with_unit (vis / 100_584) (codes "/16 SM")

abbrev pub miles_text : Option ℕ → List ℕ
miles_text None = codes "unknown"
miles_text (Some vis) = sixteenths_text vis

abbrev pub part_text : Option ℕ → List ℕ
part_text None = []
part_text (Some part) = concat (codes " part " ∷ decimal part ∷ [])

-- the report and its part, or nothing
abbrev pub source_text : Option Source → List ℕ
source_text None = []
source_text (Some source) = concat (codes " (report " ∷ decimal source.report ∷ part_text source.part ∷ codes ")" ∷ [])

-- feet, and sixteenths of a statute mile
abbrev pub pair_text : Pair → List ℕ
pair_text pair = concat (codes " " ∷ with_unit pair.ceiling (codes " ft ") ∷ sixteenths_text pair.vis ∷ [])

-- the number of an approach's row in approaches.csv among those of the airport
abbrev pub approach_text : ℕ → List ℕ
approach_text row = concat (codes "approach " ∷ decimal row ∷ [])

-- what alternate minima stand for
abbrev pub alternate_text : AlternateOrigin → List ℕ
alternate_text (alternate.Row row) = concat (codes "row " ∷ decimal row ∷ codes " of alternates.csv" ∷ [])
alternate_text (alternate.One row) = concat (approach_text row ∷ codes " + single addend" ∷ [])
alternate_text (alternate.Two first second) =
    concat (codes "approaches " ∷ decimal first ∷ codes " and " ∷ decimal second ∷ codes " + double addend" ∷ [])

-- what minima stand for
abbrev pub origin_text : Origin → List ℕ
origin_text (origin.Approach row) = approach_text row
origin_text (origin.Alternate from) = alternate_text from
origin_text (origin.RaisedFreely row) = concat (approach_text row ∷ codes " raised" ∷ [])
origin_text (origin.RaisedTo row limit) =
    concat (approach_text row ∷ codes " raised, limit " ∷ alternate_text limit ∷ [])

abbrev pub from_text : Option Origin → List ℕ
from_text None = []
from_text (Some from) = concat (codes " (" ∷ origin_text from ∷ codes ")" ∷ [])

-- minima, and what they stand for
abbrev pub minimum_text : Pair → Option Origin → List ℕ
minimum_text pair from = concat (pair_text pair ∷ from_text from ∷ [])

abbrev pub next_minimum : Pair → Option Origin → List ℕ
next_minimum pair from = concat (codes "," ∷ minimum_text pair from ∷ [])

abbrev pub first_origin : List Origin → Option Origin
first_origin [] = None
first_origin (from ∷ rest) = Some from

abbrev pub other_origins : List Origin → List Origin
other_origins [] = []
other_origins (from ∷ rest) = rest

abbrev pub next_minima : List Pair → List Origin → List ℕ
next_minima [] origins = []
next_minima (pair ∷ rest) origins = next_minimum pair (first_origin origins) ++ next_minima rest (other_origins origins)

-- the minima, separated by commas
abbrev pub minima_text : List Pair → List Origin → List ℕ
minima_text [] origins = codes " none"
minima_text (pair ∷ rest) origins =
    concat (minimum_text pair (first_origin origins) ∷ next_minima rest (other_origins origins) ∷ [])

abbrev pub yes_or_no : Bool → List ℕ
yes_or_no true = codes "yes"
yes_or_no false = codes "no"

abbrev pub station_text : Option Station → List ℕ
station_text None = codes "none"
station_text (Some station) = station

-- the minutes that have passed, since when, and until which moment
abbrev pub span_text : Elapsed → List ℕ
span_text e =
    concat (decimal e.minutes ∷ codes " min since " ∷ moment_text e.since ∷ codes " until " ∷ moment_text e.moment ∷ [])

-- the moment of the sheet, and a later one from which minutes will count
abbrev pub waiting_text : Elapsed → List ℕ
waiting_text e =
    concat (codes "not begun at " ∷ moment_text e.moment ∷ codes ", counts from " ∷ moment_text e.since ∷ [])

unfoldable pub passed_text : Elapsed → List ℕ
passed_text e = if nat_le e.since e.moment then span_text e else waiting_text e

abbrev pub time_text : Elapsed → List ℕ
time_text e = concat (passed_text e ∷ codes ", allowed " ∷ with_unit e.allowed (codes " min") ∷ [])

-- the place and the minute
abbrev pub place_text : WeatherAt → List ℕ
place_text there = concat (there.station ∷ codes " " ∷ moment_text there.minute ∷ [])

abbrev pub ceiling_text : WeatherAt → List ℕ
ceiling_text there =
    concat (codes " ceiling " ∷ known_text there.weather.ceiling (codes " ft") ∷ source_text there.ceiling_from ∷ [])

abbrev pub visibility_text : WeatherAt → List ℕ
visibility_text there = concat (codes " visibility " ∷ miles_text there.weather.vis ∷ source_text there.vis_from ∷ [])

abbrev pub weather_text : WeatherAt → List ℕ
weather_text there =
    concat (place_text there ∷ ceiling_text there ∷ visibility_text there ∷ codes ", minima"
    ∷ minima_text there.minima there.origins ∷ [])

-- sixteenths of a statute mile, rounded up
abbrev pub lacking_text : ℕ → List ℕ
lacking_text vis = with_unit ((vis + 100_583) / 100_584) (codes "/16 SM")

-- the number of the minima that are met
abbrev pub met_text : Miss → List ℕ
met_text miss = concat (codes ", meets " ∷ decimal miss.number ∷ [])

-- the number of the nearest minima, and what the weather lacks in feet and sixteenths
abbrev pub missed_text : Miss → List ℕ
missed_text miss =
    concat (codes ", misses " ∷ decimal miss.number ∷ codes " by " ∷ with_unit miss.ceiling (codes " ft ")
    ∷ lacking_text miss.vis ∷ [])

abbrev pub nearest_text : Option Miss → List ℕ
nearest_text None = []
nearest_text (Some miss) = if is_nothing (Some miss) then met_text miss else missed_text miss

-- the weather, the minima, and which of them is met or nearest
abbrev pub judged_text : WeatherAt → List ℕ
judged_text there = concat (weather_text there ∷ nearest_text (nearest_of there.weather there.minima) ∷ [])

abbrev pub departure_text : Departure → List ℕ
departure_text d = concat (judged_text d.there ∷ codes ", takeoff alternate " ∷ station_text d.listed ∷ [])

-- the distance in nautical miles, if it is known
abbrev pub miles_to : Range → List ℕ
miles_to r = concat (r.station ∷ codes ", distance " ∷ known_text r.miles (codes " NM") ∷ [])

abbrev pub distance_text : Range → List ℕ
distance_text r = concat (miles_to r ∷ codes ", allowed " ∷ with_unit r.allowed (codes " NM") ∷ [])

abbrev pub speed_text : Range → List ℕ
speed_text r = concat (codes ", engines " ∷ decimal r.engines ∷ codes " at " ∷ decimal r.knots ∷ codes " knots" ∷ [])

abbrev pub range_text : Range → List ℕ
range_text r = concat (distance_text r ∷ speed_text r ∷ [])

abbrev pub floor_text : Option Pair → List ℕ
floor_text None = codes " none"
floor_text (Some pair) = pair_text pair

-- the place, and the minutes around the ETA
abbrev pub around_text : AlternateNeed → List ℕ
around_text need =
    concat (need.station ∷ codes " " ∷ moment_text need.from ∷ codes " to " ∷ moment_text need.to ∷ [])

-- the worst weather there
abbrev pub worst_text : AlternateNeed → List ℕ
worst_text need =
    concat (codes " worst ceiling " ∷ known_text need.weather.ceiling (codes " ft") ∷ codes " visibility "
    ∷ miles_text need.weather.vis ∷ [])

abbrev pub window_text : AlternateNeed → List ℕ
window_text need = concat (around_text need ∷ worst_text need ∷ [])

-- the longest time of a flag leg without an alternate; nothing for a domestic leg
abbrev pub longest_text : Option ℕ → List ℕ
longest_text None = []
longest_text (Some longest) = concat (codes ", longest " ∷ with_unit longest (codes " min") ∷ [])

-- the minutes from ETD to ETA
abbrev pub hours_text : AlternateNeed → List ℕ
hours_text need = concat (codes ", scheduled " ∷ with_unit need.minutes (codes " min") ∷ longest_text need.longest ∷ [])

-- whether the route of a flag leg is approved without an alternate; nothing for a domestic leg
abbrev pub route_text : Option Bool → List ℕ
route_text None = []
route_text (Some is_free) = concat (codes ", free route " ∷ yes_or_no is_free ∷ [])

-- whether an alternate is needed, and how many are listed
abbrev pub count_text : AlternateNeed → List ℕ
count_text need = concat (codes ", needed " ∷ yes_or_no (is_needed need) ∷ codes ", listed " ∷ decimal need.listed ∷ [])

abbrev pub listed_text : AlternateNeed → List ℕ
listed_text need = concat (count_text need ∷ route_text need.is_free ∷ [])

abbrev pub need_text : AlternateNeed → List ℕ
need_text need =
    concat (window_text need ∷ codes ", floor" ∷ floor_text need.floor ∷ hours_text need ∷ listed_text need ∷ [])

abbrev pub both_text : Second → List ℕ
both_text s = concat (weather_text s.destination ∷ codes "; " ∷ weather_text s.alternate ∷ [])

abbrev pub margin_text : Second → List ℕ
margin_text s =
    concat (codes "margin" ∷ pair_text s.margin ∷ codes "; " ∷ both_text s ∷ [])

-- the longest leg; 0 is no limit
abbrev pub longest_leg : ℕ → List ℕ
longest_leg minutes = if minutes == 0 then codes "no limit" else with_unit minutes (codes " min")

abbrev pub allowance_text : Option Allowance → List ℕ
allowance_text None = codes "not in the list"
allowance_text (Some allows) =
    concat (codes "flag allowed " ∷ yes_or_no allows.flag_ok ∷ codes ", longest leg "
    ∷ longest_leg allows.max_minutes ∷ [])

abbrev pub flight_text : ItemLimit → List ℕ
flight_text limit =
    concat (codes ", flag flight " ∷ yes_or_no limit.is_flag ∷ codes ", in the air "
    ∷ with_unit limit.minutes (codes " min") ∷ [])

abbrev pub item_text : ItemLimit → List ℕ
item_text limit = concat (limit.item ∷ flight_text limit ∷ [])

abbrev pub limit_text : ItemLimit → List ℕ
limit_text limit =
    concat (item_text limit ∷ codes "; " ∷ allowance_text limit.allows ∷ codes "; excluded by "
    ∷ number_text limit.excluded_by ∷ [])

abbrev pub due_text : Option ℕ → List ℕ
due_text None = codes "none"
due_text (Some due) = moment_text due

abbrev pub found_text : Repair → List ℕ
found_text r = concat (r.item ∷ codes ", found " ∷ moment_text r.found ∷ [])

abbrev pub repair_text : Repair → List ℕ
repair_text r = concat (found_text r ∷ codes ", due " ∷ due_text r.due ∷ codes ", ETA " ∷ moment_text r.eta ∷ [])

abbrev pub allowed_text : AirportUse → List ℕ
allowed_text airport = concat (codes " at " ∷ airport.station ∷ codes ", allowed " ∷ yes_or_no airport.may_use ∷ [])

abbrev pub airport_text : AirportUse → List ℕ
airport_text airport = concat (airport.kind ∷ allowed_text airport ∷ [])

-- a word and an amount of fuel
abbrev pub pounds : List ℕ → ℕ → List ℕ
pounds word n = concat (word ∷ with_unit n (codes " lb") ∷ [])

abbrev pub stated_text : FuelSum → List ℕ
stated_text f = concat (pounds (codes "stated ") f.stated ∷ pounds (codes ", required ") f.required ∷ [])

abbrev pub burn_text : FuelSum → List ℕ
burn_text f = concat (pounds (codes " = burn ") f.burn ∷ pounds (codes " + extra ") f.extra ∷ [])

-- a tenth of the time in the air, where it counts
abbrev pub tenth_of : Basis → ℕ → List ℕ
tenth_of basis.Domestic n = []
tenth_of basis.Flag n = pounds (codes " + tenth ") n
tenth_of basis.NoAlternate n = []

abbrev pub tenth_text : FuelSum → List ℕ
tenth_text f = concat (tenth_of f.basis f.tenth ∷ pounds (codes " + alternate ") f.alternate ∷ [])

-- what the reserve is
abbrev pub basis_text : Basis → List ℕ
basis_text basis.Domestic = codes " (45 minutes at cruise_pph)"
basis_text basis.Flag = codes " (30 minutes at hold_pph)"
basis_text basis.NoAlternate = codes " (2 hours at cruise_pph)"

abbrev pub reserve_text : FuelSum → List ℕ
reserve_text f =
    concat (pounds (codes " + reserve ") f.reserve ∷ basis_text f.basis
    ∷ pounds (codes " + deferrals ") f.deferred ∷ [])

abbrev pub fuel_text : FuelSum → List ℕ
fuel_text f = concat (stated_text f ∷ burn_text f ∷ tenth_text f ∷ reserve_text f ∷ [])

abbrev pub board_text : OnBoard → List ℕ
board_text b = concat (pounds (codes "on board ") b.onboard ∷ pounds (codes ", minimum ") b.minimum ∷ [])

-- the name of a fault of a plan, and the fault
abbrev pub why_text : PlanWhy → List ℕ
why_text why.UnknownTail = codes "UnknownTail: tails.csv has no such aircraft"
why_text why.UnknownCaptain = codes "UnknownCaptain: actors.csv has no such actor with role C"
why_text why.Count = codes "Count: no legs, or more than 8, or more than 3 alternates"
why_text why.NoAirport = codes "NoAirport: a station isn't in airports.csv"
why_text why.Repeated = codes "Repeated: a station is where another one is required"
why_text why.Unjoined = codes "Unjoined: the leg doesn't begin where the one before ended"
why_text why.Times = codes "Times: a moment, its order or a number of minutes is outside the limits"
why_text why.Amount = codes "Amount: an amount of fuel is above 1000000 lb"
why_text why.Changed = codes "Changed: the amendment changes the flight, the kind, or in flight the aircraft"
why_text why.Flown = codes "Flown: the amendment changes or omits what was flown, or leaves no leg to fly"

abbrev pub fault_text : Option TablesFault → List ℕ
fault_text None = codes "fits the tables"
fault_text (Some tables.NoType) = codes "the aircraft has no type"
fault_text (Some (tables.Plan why)) = why_text why

-- what a line compares
abbrev pub compared_text : Compared → List ℕ
compared_text (compared.Time elapsed) = time_text elapsed
compared_text (compared.Weather there) = judged_text there
compared_text (compared.Takeoff departure) = departure_text departure
compared_text (compared.Distance range) = range_text range
compared_text (compared.Need need) = need_text need
compared_text (compared.Margin second) = margin_text second
compared_text (compared.Limit limit) = limit_text limit
compared_text (compared.Due repair) = repair_text repair
compared_text (compared.Airport airport) = airport_text airport
compared_text (compared.Fuel sum) = fuel_text sum
compared_text (compared.Board fuel) = board_text fuel
compared_text (compared.Tables fault) = fault_text fault

abbrev pub holds_text : Bool → List ℕ
holds_text true = codes " holds: "
holds_text false = codes " fails: "

-- the finding that the line is if it fails, whether it holds, and what it compares
abbrev pub line_text : Line → List ℕ
line_text line =
    concat (finding_text (key line) ∷ holds_text (holds line) ∷ compared_text line.compared ∷ codes "\n" ∷ [])

-- the lines in order
abbrev pub lines_text : List Line → List ℕ
lines_text [] = []
lines_text (line ∷ rest) = line_text line ++ lines_text rest

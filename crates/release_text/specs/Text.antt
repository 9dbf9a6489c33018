-- The text of a release (14 CFR 121.687), in which every line ends in a line feed.
use Rattle.std.specs.Prelude.{ℕ, ◌+◌, List, [], ◌∷◌, ◌++◌, Option, None, Some, codes, decimal}
use Rattle.std.specs.List.{concat}
use Rattle.desk_time.specs.Moments.{shown}
use Rattle.plan.specs.declared.flights.Plan.{Plan}
use Rattle.plan.specs.declared.flights.Kind.{Kind}
use Rattle.plan.specs.declared.flights.Kind.TheVariants.{Domestic, Flag}
use Rattle.plan.specs.declared.flights.Leg.{Leg}
use Rattle.plan.specs.declared.flights.Alternate.{Alternate}
use Rattle.plan.specs.declared.flights.TakeoffAlternate.{TakeoffAlternate}
use Rattle.plan.specs.declared.release.Attached.{Attached}

abbrev pub kind_word : Kind → List ℕ
kind_word Domestic = codes "DOMESTIC"
kind_word Flag = codes "FLAG"

-- the flight number, the revision and the kind of operation
abbrev pub flight_line : Plan → ℕ → List ℕ
flight_line plan revision =
    concat (codes "FLIGHT " ∷ plan.flight ∷ codes " REVISION " ∷ decimal revision ∷ codes " " ∷ []) ++ concat (kind_word plan.kind ∷ codes "\n" ∷ [])

-- the aircraft and the pilot in command
abbrev pub aircraft_line : Plan → List ℕ
aircraft_line plan = concat (codes "AIRCRAFT " ∷ plan.tail ∷ codes " CAPTAIN " ∷ plan.captain ∷ codes "\n" ∷ [])

abbrev pub ends_text : ℕ → Leg → List ℕ
ends_text n leg = concat (codes "LEG " ∷ decimal n ∷ codes " " ∷ leg.from ∷ codes " " ∷ []) ++ leg.to

abbrev pub times_text : Leg → List ℕ
times_text leg = concat (codes " ETD " ∷ shown leg.etd ∷ codes " ETA " ∷ shown leg.eta ∷ [])

abbrev pub minutes_text : Leg → List ℕ
minutes_text leg = concat (codes " MINUTES " ∷ decimal leg.minutes ∷ codes "\n" ∷ [])

-- the leg's number, its airports, its times and its minutes in the air
unfoldable pub leg_line : ℕ → Leg → List ℕ
leg_line n leg = ends_text n leg ++ times_text leg ++ minutes_text leg

-- the takeoff alternate and the minutes to it
unfoldable pub takeoff_line : Option TakeoffAlternate → List ℕ
takeoff_line None = codes "TAKEOFF ALTERNATE NONE\n"
takeoff_line (Some alternate) =
    concat (codes "TAKEOFF ALTERNATE " ∷ alternate.station ∷ codes " MINUTES " ∷ decimal alternate.minutes ∷ codes "\n" ∷ [])

abbrev pub distance_text : Alternate → List ℕ
distance_text alternate = concat (codes "ALTERNATE " ∷ alternate.station ∷ codes " MINUTES " ∷ decimal alternate.minutes ∷ [])

-- an alternate of the destination, with the minutes and the fuel to it
unfoldable pub alternate_line : Alternate → List ℕ
alternate_line alternate = distance_text alternate ++ concat (codes " FUEL " ∷ decimal alternate.fuel ∷ codes "\n" ∷ [])

abbrev pub alternate_lines : List Alternate → List ℕ
alternate_lines [] = []
alternate_lines (alternate ∷ alternates) = alternate_line alternate ++ alternate_lines alternates

-- a line for each alternate of the destination, or one line with NONE
unfoldable pub alternates_text : List Alternate → List ℕ
alternates_text [] = codes "ALTERNATE NONE\n"
alternates_text (alternate ∷ alternates) = alternate_lines (alternate ∷ alternates)

abbrev pub planned_fuel : Leg → List ℕ
planned_fuel leg = concat (codes "BURN " ∷ decimal leg.burn ∷ codes " EXTRA " ∷ decimal leg.extra ∷ [])

-- the minimum fuel and the fuel on board
abbrev pub supply : Leg → List ℕ
supply leg = concat (codes " MINIMUM " ∷ decimal leg.minimum ∷ codes " ONBOARD " ∷ decimal leg.onboard ∷ codes "\n" ∷ [])

-- the fuel of the leg, in pounds
unfoldable pub fuel_line : Leg → List ℕ
fuel_line leg = planned_fuel leg ++ supply leg

-- the lines of a leg
unfoldable pub leg_text : ℕ → Leg → List ℕ
leg_text n leg = leg_line n leg ++ takeoff_line leg.takeoff_alternate ++ alternates_text leg.alternates ++ fuel_line leg

-- the lines of the legs, if the first has number n
abbrev pub legs_text : ℕ → List Leg → List ℕ
legs_text n [] = []
legs_text n (leg ∷ legs) = leg_text n leg ++ legs_text (n + 1) legs

-- the number and the text of an attached report
unfoldable pub report_line : Attached → List ℕ
report_line a = concat (codes "REPORT " ∷ decimal a.report ∷ codes " " ∷ a.text ∷ codes "\n" ∷ [])

abbrev pub report_lines : List Attached → List ℕ
report_lines [] = []
report_lines (a ∷ attached) = report_line a ++ report_lines attached

-- the first lines: the title, the flight and the aircraft
unfoldable pub head_text : Plan → ℕ → List ℕ
head_text plan revision = codes "DISPATCH RELEASE\n" ++ flight_line plan revision ++ aircraft_line plan

-- The text of a release: the flight, the aircraft and its pilot in command, each leg, and the attached weather
-- reports.
unfoldable pub release_text : Plan → ℕ → List Attached → List ℕ
release_text plan revision attached =
    head_text plan revision ++ legs_text 1 plan.legs ++ report_lines attached ++ codes "END\n"

-- The lines of a sheet. Each kind of line has one test, which reads nothing but the numbers in the line.
--
-- The sheet stands beside judging: a judgement keeps only places and stays as fast as it is, and the lines are tied to
-- it by the law that the keys of the lines that fail are exactly the findings, in order.
use Rattle.std.specs.Prelude.{ℕ, ◌+◌, nat_le, nat_lt, Bool, true, false, not, ◌&&◌, ◌||◌, if◌then◌else◌, List, [], ◌∷◌, map, filter, Option, None, Some, is_some, is_none}
use Rattle.codes.specs.Minima.{meets}
use Rattle.desk_io.specs.declared.pair.Pair.{Pair}
pub use Rattle.plan.specs.AlternateNeeds.{misses}
use Rattle.plan.specs.AlternateNeeds.{meets_raised}
use Rattle.plan.specs.declared.findings.Finding.{Finding}
use Rattle.plan.specs.declared.findings.Rule.{Rule}
use Rattle.rules.specs.Judgement.{finding}
use Rattle.sheet.specs.declared.lines.Line.{Line}
use Rattle.sheet.specs.declared.lines.Compared.{Compared}
use Rattle.sheet.specs.declared.lines.Compared.TheVariants.{Time, Weather, Takeoff, Distance, Need, Margin, Limit, Due, Airport, Fuel, Board, Tables}
use Rattle.sheet.specs.declared.lines.Elapsed.{Elapsed}
use Rattle.sheet.specs.declared.lines.WeatherAt.{WeatherAt}
use Rattle.sheet.specs.declared.lines.Departure.{Departure}
use Rattle.sheet.specs.declared.lines.AlternateNeed.{AlternateNeed}
use Rattle.sheet.specs.declared.lines.Second.{Second}
use Rattle.sheet.specs.declared.lines.ItemLimit.{ItemLimit}
use Rattle.sheet.specs.declared.lines.Allowance.{Allowance}
use Rattle.sheet.specs.declared.lines.FuelSum.{FuelSum}
use Rattle.sheet.specs.declared.lines.OnBoard.{OnBoard}

-- no more minutes have passed than are allowed
abbrev pub is_in_time : Elapsed → Bool
is_in_time elapsed = nat_le elapsed.minutes elapsed.allowed

-- the weather meets one of the minima
abbrev pub is_met : WeatherAt → Bool
is_met there = meets there.weather there.minima

-- the weather meets one of the minima plus the margin
abbrev pub is_beyond : WeatherAt → Pair → Bool
is_beyond there margin = meets_raised there.weather there.minima margin

-- the departure is at or above its minima, or a takeoff alternate is listed
abbrev pub is_covered : Departure → Bool
is_covered departure = is_met departure.there || is_some departure.listed

-- the distance is known and no greater than allowed
abbrev pub is_in_range : Option ℕ → ℕ → Bool
is_in_range None allowed = false
is_in_range (Some miles) allowed = nat_le miles allowed

-- the leg is scheduled for longer than a flag leg may be without an alternate
abbrev pub is_longer : Option ℕ → ℕ → Bool
is_longer None minutes = false
is_longer (Some longest) minutes = nat_lt longest minutes

-- the leg is too long, or the weather is below the floor
abbrev pub is_needed : AlternateNeed → Bool
is_needed need = is_longer need.longest need.minutes || misses need.weather need.floor

-- the route is approved without an alternate; that of a domestic leg never is
abbrev pub is_approved : Option Bool → Bool
is_approved None = false
is_approved (Some free) = free

-- no alternate is needed, or one is listed, or the route is approved without one
abbrev pub is_provided : AlternateNeed → Bool
is_provided need = (not (is_needed need) || nat_lt 0 need.listed) || is_approved need.is_free

-- the destination or the alternate is above its minima by the margin
abbrev pub is_beyond_margin : Second → Bool
is_beyond_margin second = is_beyond second.destination second.margin || is_beyond second.alternate second.margin

-- the leg is longer than the item allows; 0 is no limit
abbrev pub is_exceeded : ℕ → ℕ → Bool
is_exceeded max_minutes minutes = nat_lt 0 max_minutes && nat_lt max_minutes minutes

-- the list has the item, and the item forbids neither the operation, nor the length of the leg, nor another deferral
abbrev pub is_allowed_by : ItemLimit → Option Allowance → Bool
is_allowed_by limit None = false
is_allowed_by limit (Some allows) =
    not (((limit.is_flag && not allows.flag_ok) || is_exceeded allows.max_minutes limit.minutes) || is_some limit.excluded_by)

-- the ETA is before the moment by which the item must be repaired
abbrev pub arrives_before : Option ℕ → ℕ → Bool
arrives_before None eta = true
arrives_before (Some due) eta = nat_lt eta due

-- the minimum fuel is at least what is required
abbrev pub is_enough : FuelSum → Bool
is_enough sum = nat_le sum.required sum.stated

-- the fuel on board is at least the minimum fuel
abbrev pub is_filled : OnBoard → Bool
is_filled fuel = nat_le fuel.minimum fuel.onboard

-- what is compared passes the test of its kind
abbrev pub passes : Compared → Bool
passes (Time elapsed) = is_in_time elapsed
passes (Weather there) = is_met there
passes (Takeoff departure) = is_covered departure
passes (Distance range) = is_in_range range.miles range.allowed
passes (Need need) = is_provided need
passes (Margin second) = is_beyond_margin second
passes (Limit limit) = is_allowed_by limit limit.allows
passes (Due repair) = arrives_before repair.due repair.eta
passes (Airport airport) = airport.may_use
passes (Fuel sum) = is_enough sum
passes (Board fuel) = is_filled fuel
passes (Tables fault) = is_none fault

-- the rule holds at the line
abbrev pub holds : Line → Bool
holds line = passes line.compared

abbrev pub fails : Line → Bool
fails line = not (holds line)

-- the finding that the line is if it fails
abbrev pub key : Line → Finding
key line = finding line.rule line.leg line.place

-- the findings of the lines that fail, in order
abbrev pub failing : List Line → List Finding
failing lines = map key (filter fails lines)

abbrev pub line : Rule → ℕ → ℕ → Compared → Line
line rule leg place compared = record { rule = rule; leg = leg; place = place; compared = compared }

-- the line, if the rule applies
abbrev pub line_if : Bool → Line → List Line
line_if applies line = if applies then line ∷ [] else []

-- the lines of these items, if the first has this place
abbrev pub numbered : {A : Type 0} → (ℕ → A → Line) → ℕ → List A → List Line
numbered at place [] = []
numbered at place (a ∷ rest) = at place a ∷ numbered at (place + 1) rest

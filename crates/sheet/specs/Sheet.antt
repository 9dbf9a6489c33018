-- The sheet of a plan: each line of each rule, rule by rule and leg by leg.
use Rattle.std.specs.Prelude.{ℕ, ◌+◌, Bool, true, false, if◌then◌else◌, List, [], ◌∷◌, ◌++◌, Option, None, Some}
use Rattle.ops_tables.specs.declared.rows.Settings.{Settings}
use Rattle.ops_tables.specs.declared.rows.TypeRow.{TypeRow}
use Rattle.ops_tables.specs.Tables.{type_of}
use Rattle.plan.specs.Check.{plan_fault}
use Rattle.plan.specs.Findings.{rules_of_legs}
use Rattle.plan.specs.Phases.{standing}
use Rattle.plan.specs.declared.check.BadPlan.{BadPlan}
use Rattle.plan.specs.declared.findings.Rule.{Rule}
use Rattle.plan.specs.declared.findings.Rule.TheVariants.{No1, No2, No3, No4, No5, No6, No7, No8, No9, No10, No11, No12, No13, No14, No15, No16, No17, No18, No19}
use Rattle.plan.specs.declared.flights.Leg.{Leg}
use Rattle.plan.specs.declared.flights.Plan.{Plan}
use Rattle.plan.specs.declared.release.Phase.{Phase}
use Rattle.plan.specs.declared.release.Standing.{Standing}
use Rattle.plan.specs.declared.release.Standing.TheVariants.{Ahead, InFlight, Flown}
use Rattle.rules.specs.Circumstances.{Case}
use Rattle.rules.specs.Grounds.{Grounds}
use Rattle.rules.specs.Judgement.{case_for, is_of_departure}
use Rattle.sheet.specs.declared.lines.Compared.TheVariants as compared
use Rattle.sheet.specs.declared.lines.Line.{Line}
use Rattle.sheet.specs.declared.lines.TablesFault.{TablesFault}
use Rattle.sheet.specs.declared.lines.TablesFault.TheVariants as tables
use Rattle.sheet.specs.declared.time.Times.{Times}
use Rattle.sheet.specs.Equipment.{limit_lines, repair_lines, airport_lines}
use Rattle.sheet.specs.Fuel.{domestic_lines, flag_lines, board_lines}
use Rattle.sheet.specs.Lines.{line}
use Rattle.sheet.specs.Needs.{domestic_needs, second_lines, flag_needs}
use Rattle.sheet.specs.Time.{time_lines}
use Rattle.sheet.specs.Weather.{landing_lines, departure_lines, range_lines, takeoff_lines, alternate_lines}

-- the lines of a rule on leg n, except those of the rules of time
abbrev pub lines_of : Rule → Case → Bool → ℕ → Leg → List Line
lines_of No1 c ahead n leg = []
lines_of No2 c ahead n leg = []
lines_of No3 c ahead n leg = landing_lines c n leg
lines_of No4 c ahead n leg = departure_lines c n leg
lines_of No5 c ahead n leg = range_lines c n leg
lines_of No6 c ahead n leg = takeoff_lines c n leg
lines_of No7 c ahead n leg = domestic_needs c n leg
lines_of No8 c ahead n leg = second_lines c n leg
lines_of No9 c ahead n leg = flag_needs c n leg
lines_of No10 c ahead n leg = alternate_lines c n leg
lines_of No11 c ahead n leg = limit_lines c n leg
lines_of No12 c ahead n leg = repair_lines c n leg
lines_of No13 c ahead n leg = airport_lines c ahead n leg
lines_of No14 c ahead n leg = domestic_lines c n leg
lines_of No15 c ahead n leg = flag_lines c n leg
lines_of No16 c ahead n leg = board_lines n leg
lines_of No17 c ahead n leg = []
lines_of No18 c ahead n leg = []
lines_of No19 c ahead n leg = []

-- The same by the state of the leg. A flown leg has no lines, and a leg in flight none of the rules on departures.
abbrev pub lines_at : Rule → Case → Standing → ℕ → Leg → List Line
lines_at rule c Ahead n leg = lines_of rule c true n leg
lines_at rule c InFlight n leg = if is_of_departure rule then [] else lines_of rule c false n leg
lines_at rule c Flown n leg = []

-- the same in the case, if there is one
abbrev pub lines_in_case : Rule → Option Case → Standing → ℕ → Leg → List Line
lines_in_case rule None standing n leg = []
lines_in_case rule (Some c) standing n leg = lines_at rule c standing n leg

-- all lines of a rule on leg n, given what the rules of time depend on
abbrev pub lines_with : Times → Option Case → Rule → ℕ → Leg → List Line
lines_with times c rule n leg = time_lines rule times.settings times.flight times.phase n leg times.moment ++ lines_in_case rule c (standing times.phase n) n leg

abbrev pub times_in : Plan → Phase → Settings → ℕ → Times
times_in plan phase settings moment = record { settings = settings; flight = plan.kind; phase = phase; moment = moment }

abbrev pub lines_for : Plan → Phase → Grounds → Option Case → Rule → ℕ → Leg → List Line
lines_for plan phase g c rule n leg = lines_with (times_in plan phase g.tables.settings g.moment) c rule n leg

-- the lines of a rule, leg by leg, if the first leg has number n
abbrev pub lines_from : (Rule → ℕ → Leg → List Line) → Rule → ℕ → List Leg → List Line
lines_from lines rule n [] = []
lines_from lines rule n (leg ∷ legs) = lines rule n leg ++ lines_from lines rule (n + 1) legs

-- the lines, rule by rule
abbrev pub lines_by : (Rule → ℕ → Leg → List Line) → List Rule → List Leg → List Line
lines_by lines [] legs = []
lines_by lines (rule ∷ rules) legs = lines_from lines rule 1 legs ++ lines_by lines rules legs

abbrev pub fault_of_type : Option TypeRow → Option TablesFault
fault_of_type None = Some tables.NoType
fault_of_type (Some aircraft) = None

abbrev pub fault_line : ℕ → Option TablesFault → Line
fault_line leg fault = line No19 leg 0 (compared.Tables fault)

abbrev pub tables_line : Option BadPlan → Option TypeRow → Line
tables_line (Some bad) aircraft = fault_line bad.leg (Some (tables.Plan bad.why))
tables_line None aircraft = fault_line 0 (fault_of_type aircraft)

-- whether the plan passes its tests under the tables
abbrev pub line_of_tables : Plan → Grounds → Line
line_of_tables plan g = tables_line (plan_fault g.tables plan) (type_of g.tables plan.tail)

-- The lines of all rules for a plan in a phase, in the order of rule, leg and place. A plan that fails its tests has only
-- the lines of the rules of time and that of its fault.
unfoldable pub sheet_of : Plan → Phase → Grounds → List Line
sheet_of plan phase g = lines_by (lines_for plan phase g (case_for plan g)) rules_of_legs plan.legs ++ line_of_tables plan g ∷ []

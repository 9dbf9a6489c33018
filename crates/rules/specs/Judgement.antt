-- The findings on a plan: every rule that it fails, with leg and place.
use Rattle.std.specs.Prelude.{ℕ, ◌+◌, ◌==◌, ◌⊎◌, Bool, true, false, if◌then◌else◌, List, [], ◌∷◌, ◌++◌, map, Option, None, Some, Contains}
use Rattle.std.specs.Option.{option_map}
use Rattle.ops_tables.specs.declared.rows.TypeRow.{TypeRow}
use Rattle.ops_tables.specs.Tables.{type_of}
use Rattle.plan.specs.Check.{plan_fault}
use Rattle.plan.specs.Phases.{standing}
use Rattle.plan.specs.declared.check.BadPlan.{BadPlan}
use Rattle.plan.specs.declared.flights.Plan.{Plan}
use Rattle.plan.specs.declared.flights.Leg.{Leg}
use Rattle.plan.specs.declared.release.Phase.{Phase}
use Rattle.plan.specs.declared.release.Standing.{Standing}
use Rattle.plan.specs.declared.release.Standing.TheVariants.{Ahead, InFlight, Flown}
use Rattle.plan.specs.Findings.{rules_of_legs}
use Rattle.plan.specs.declared.findings.Finding.{Finding}
use Rattle.plan.specs.declared.findings.Rule.{Rule}
use Rattle.plan.specs.declared.findings.Rule.TheVariants.{No1, No2, No3, No4, No5, No6, No7, No8, No9, No10, No11, No12, No13, No14, No15, No16, No17, No18, No19}
use Rattle.rules.specs.Grounds.{Grounds}
use Rattle.rules.specs.Circumstances.{Case, case_of}
use Rattle.rules.specs.Weather.{is_below_landing}
use Rattle.rules.specs.TakeoffAlternates.{lacks_takeoff_alternate, has_far_takeoff_alternate, has_low_takeoff_alternate}
use Rattle.rules.specs.DestinationAlternates.{place_if, lacks_domestic_alternate, lacks_second_alternate, lacks_flag_alternate, low_alternates}
use Rattle.rules.specs.Equipment.{limiting, overdue, barred}
use Rattle.rules.specs.Fuel.{is_short_domestic, is_short_flag, is_underfilled}
use Rattle.rules.specs.Time.{late_places}

-- the rule judges only legs that haven't departed
abbrev pub is_of_departure : Rule → Bool
is_of_departure No1 = false
is_of_departure No2 = false
is_of_departure No3 = false
is_of_departure No4 = true
is_of_departure No5 = true
is_of_departure No6 = true
is_of_departure No7 = false
is_of_departure No8 = false
is_of_departure No9 = false
is_of_departure No10 = false
is_of_departure No11 = true
is_of_departure No12 = true
is_of_departure No13 = false
is_of_departure No14 = false
is_of_departure No15 = false
is_of_departure No16 = false
is_of_departure No17 = false
is_of_departure No18 = false
is_of_departure No19 = false

-- The places at which a leg fails a rule on weather, alternates, equipment or fuel, in order. A place is 0, or the
-- number of an alternate or deferral.
abbrev pub places_of : Rule → Case → Bool → Leg → List ℕ
places_of No1 c ahead leg = []
places_of No2 c ahead leg = []
places_of No3 c ahead leg = place_if (is_below_landing c leg) 0
places_of No4 c ahead leg = place_if (lacks_takeoff_alternate c leg) 0
places_of No5 c ahead leg = place_if (has_far_takeoff_alternate c leg) 0
places_of No6 c ahead leg = place_if (has_low_takeoff_alternate c leg) 0
places_of No7 c ahead leg = place_if (lacks_domestic_alternate c leg) 0
places_of No8 c ahead leg = place_if (lacks_second_alternate c leg) 0
places_of No9 c ahead leg = place_if (lacks_flag_alternate c leg) 0
places_of No10 c ahead leg = low_alternates c leg
places_of No11 c ahead leg = limiting c leg
places_of No12 c ahead leg = overdue c leg
places_of No13 c ahead leg = barred c ahead leg
places_of No14 c ahead leg = place_if (is_short_domestic c leg) 0
places_of No15 c ahead leg = place_if (is_short_flag c leg) 0
places_of No16 c ahead leg = place_if (is_underfilled leg) 0
places_of No17 c ahead leg = []
places_of No18 c ahead leg = []
places_of No19 c ahead leg = []

-- the same by the state of the leg; no rule judges a flown leg
abbrev pub places_at : Rule → Case → Standing → Leg → List ℕ
places_at rule c Ahead leg = places_of rule c true leg
places_at rule c InFlight leg = if is_of_departure rule then [] else places_of rule c false leg
places_at rule c Flown leg = []

-- The case of a plan that passes its tests. There is none if it fails a test or its aircraft has no type. Under
-- linked tables every aircraft has one.
abbrev pub case_unless : Option BadPlan → Plan → Grounds → Option Case
case_unless (Some bad) plan g = None
case_unless None plan g = option_map (case_of g plan) (type_of g.tables plan.tail)

abbrev pub case_for : Plan → Grounds → Option Case
case_for plan g = case_unless (plan_fault g.tables plan) plan g

-- without a case, since the plan fails its tests, no rule on weather, alternates, equipment or fuel fails
abbrev pub places_in_case : Rule → Option Case → Standing → Leg → List ℕ
places_in_case rule None standing leg = []
places_in_case rule (Some c) standing leg = places_at rule c standing leg

-- The places at which leg n fails a rule. Rules of time judge every plan.
abbrev pub places_for : Plan → Phase → Grounds → Option Case → Rule → ℕ → Leg → List ℕ
places_for plan phase g c rule n leg = late_places rule g.tables.settings plan.kind phase n leg g.moment ++ places_in_case rule c (standing phase n) leg

abbrev pub finding : Rule → ℕ → ℕ → Finding
finding rule leg place = record { rule = rule; leg = leg; place = place }

-- the findings of a rule, leg by leg, if the first leg has number n
abbrev pub findings_from : (Rule → ℕ → Leg → List ℕ) → Rule → ℕ → List Leg → List Finding
findings_from places rule n [] = []
findings_from places rule n (leg ∷ legs) = map (finding rule n) (places rule n leg) ++ findings_from places rule (n + 1) legs

-- the findings, rule by rule
abbrev pub findings_by : (Rule → ℕ → Leg → List ℕ) → List Rule → List Leg → List Finding
findings_by places [] legs = []
findings_by places (rule ∷ rules) legs = findings_from places rule 1 legs ++ findings_by places rules legs

abbrev pub without_type : Option TypeRow → List Finding
without_type None = finding No19 0 0 ∷ []
without_type (Some aircraft) = []

-- the finding that a plan fails its tests under the tables, with the leg that fails
abbrev pub tables_finding : Option BadPlan → Option TypeRow → List Finding
tables_finding (Some bad) aircraft = finding No19 bad.leg 0 ∷ []
tables_finding None aircraft = without_type aircraft

abbrev pub findings_of_tables : Plan → Grounds → List Finding
findings_of_tables plan g = tables_finding (plan_fault g.tables plan) (type_of g.tables plan.tail)

-- The rules that a plan fails in a phase, in the order of rule, leg and place. A plan that fails its tests has one
-- finding for that, besides those of the rules of time.
unfoldable pub findings_of : Plan → Phase → Grounds → List Finding
findings_of plan phase g = findings_by (places_for plan phase g (case_for plan g)) rules_of_legs plan.legs ++ findings_of_tables plan g

-- the leg of this number, if the first leg has the number `first`
abbrev pub leg_numbered : ℕ → ℕ → List Leg → Option Leg
leg_numbered number first [] = None
leg_numbered number first (leg ∷ legs) = if number == first then Some leg else leg_numbered number (first + 1) legs

-- the leg fails the rule at this place
abbrev pub FailsAt : (Rule → ℕ → Leg → List ℕ) → Rule → ℕ → Option Leg → ℕ → Type 0
FailsAt places rule number None place = ⊥
FailsAt places rule number (Some leg) place = Contains (places rule number leg) place

-- The plan fails a rule at this leg and place: the leg does, or the plan fails its tests under the tables.
abbrev pub Fails : Plan → Phase → Grounds → Rule → ℕ → ℕ → Type 0
Fails plan phase g rule leg place =
    FailsAt (places_for plan phase g (case_for plan g)) rule leg (leg_numbered leg 1 plan.legs) place ⊎ Contains (findings_of_tables plan g) (finding rule leg place)

-- the rule fails at the leg and place of the finding
abbrev pub IsTrueOf : Plan → Phase → Grounds → Finding → Type 0
IsTrueOf plan phase g f = Fails plan phase g f.rule f.leg f.place

-- the findings contain every failure of a rule
abbrev pub NamesAll : Plan → Phase → Grounds → List Finding → Type 0
NamesAll plan phase g fs = (rule : Rule) → (leg place : ℕ) → Fails plan phase g rule leg place → Contains fs (finding rule leg place)

-- The keys of the lines that fail are exactly the findings, in order, and the terms of each sum of fuel add up.
use Rattle.std.proofs.Common.{◌≡◌, ℕ, ◌≤◌, ◌+◌, true, false, List, [], ◌∷◌, ◌++◌, Option, None, Some, refl, ap, ◌∙◌}
use Rattle.std.specs.Prelude.{map}
use Rattle.std.specs.List.{AllByRecursion}
use Rattle.desk_time.specs.Limits.{last_moment}
use Rattle.ops_tables.specs.Tables.{type_of}
use Rattle.ops_tables.specs.declared.rows.TypeRow.{TypeRow}
use Rattle.plan.specs.Check.{HasMoments, plan_fault}
use Rattle.plan.specs.Findings.{rules_of_legs}
use Rattle.plan.specs.Phases.{standing}
use Rattle.plan.specs.declared.check.BadPlan.{BadPlan}
use Rattle.plan.specs.declared.findings.Finding.{Finding}
use Rattle.plan.specs.declared.findings.Rule.{Rule}
use Rattle.plan.specs.declared.findings.Rule.TheVariants.{No1, No2, No3, No4, No5, No6, No7, No8, No9, No10, No11, No12, No13, No14, No15, No16, No17, No18, No19}
use Rattle.plan.specs.declared.flights.Leg.{Leg}
use Rattle.plan.specs.declared.flights.Plan.{Plan}
use Rattle.plan.specs.declared.release.Phase.{Phase}
use Rattle.plan.specs.declared.release.Standing.{Standing}
use Rattle.plan.specs.declared.release.Standing.TheVariants.{Ahead, InFlight, Flown}
use Rattle.rules.specs.Circumstances.{Case}
use Rattle.rules.specs.Grounds.{Grounds}
use Rattle.rules.specs.Judgement.{places_of, places_at, places_in_case, places_for, case_for, finding, findings_from, findings_by, tables_finding, findings_of_tables, findings_of}
use Rattle.rules.specs.Time.{late_places}
use Rattle.sheet.specs.declared.lines.Line.{Line}
use Rattle.sheet.specs.Lines.{failing}
use Rattle.sheet.specs.Sheet.{lines_of, lines_at, lines_in_case, lines_for, lines_from, lines_by, tables_line, line_of_tables, sheet_of}
use Rattle.sheet.specs.Time.{time_lines}
use Rattle.sheet.proofs.LineLaws.{failing_append, two_parts}
use Rattle.sheet.proofs.TimeLaws.{time_fail}
use Rattle.sheet.proofs.WeatherLaws.{landing_fail, departure_fail, range_fail, takeoff_fail, alternates_fail}
use Rattle.sheet.proofs.NeedLaws.{domestic_need_fails, second_fails, flag_need_fails}
use Rattle.sheet.proofs.EquipmentLaws.{limits_fail, repairs_fail, airports_fail}
use Rattle.sheet.proofs.FuelLaws.{domestic_fail, flag_fail, board_fail}

ahead_fail : (rule : Rule) (c : Case) (n : ℕ) (leg : Leg) → leg.eta ≤ last_moment → failing (lines_of rule c true n leg) ≡ map (finding rule n) (places_of rule c true leg)
ahead_fail No1 c n leg within = refl
ahead_fail No2 c n leg within = refl
ahead_fail No3 c n leg within = landing_fail c true n leg
ahead_fail No4 c n leg within = departure_fail c n leg
ahead_fail No5 c n leg within = range_fail c n leg
ahead_fail No6 c n leg within = takeoff_fail c n leg
ahead_fail No7 c n leg within = domestic_need_fails c true n leg
ahead_fail No8 c n leg within = second_fails c true n leg
ahead_fail No9 c n leg within = flag_need_fails c true n leg
ahead_fail No10 c n leg within = alternates_fail c true n leg
ahead_fail No11 c n leg within = limits_fail c n leg
ahead_fail No12 c n leg within = repairs_fail c n leg within
ahead_fail No13 c n leg within = airports_fail c true n leg
ahead_fail No14 c n leg within = domestic_fail c true n leg
ahead_fail No15 c n leg within = flag_fail c true n leg
ahead_fail No16 c n leg within = board_fail c true n leg
ahead_fail No17 c n leg within = refl
ahead_fail No18 c n leg within = refl
ahead_fail No19 c n leg within = refl

in_flight_fail : (rule : Rule) (c : Case) (n : ℕ) (leg : Leg) → failing (lines_at rule c InFlight n leg) ≡ map (finding rule n) (places_at rule c InFlight leg)
in_flight_fail No1 c n leg = refl
in_flight_fail No2 c n leg = refl
in_flight_fail No3 c n leg = landing_fail c false n leg
in_flight_fail No4 c n leg = refl
in_flight_fail No5 c n leg = refl
in_flight_fail No6 c n leg = refl
in_flight_fail No7 c n leg = domestic_need_fails c false n leg
in_flight_fail No8 c n leg = second_fails c false n leg
in_flight_fail No9 c n leg = flag_need_fails c false n leg
in_flight_fail No10 c n leg = alternates_fail c false n leg
in_flight_fail No11 c n leg = refl
in_flight_fail No12 c n leg = refl
in_flight_fail No13 c n leg = airports_fail c false n leg
in_flight_fail No14 c n leg = domestic_fail c false n leg
in_flight_fail No15 c n leg = flag_fail c false n leg
in_flight_fail No16 c n leg = board_fail c false n leg
in_flight_fail No17 c n leg = refl
in_flight_fail No18 c n leg = refl
in_flight_fail No19 c n leg = refl

case_fail : (rule : Rule) (c : Option Case) (state : Standing) (n : ℕ) (leg : Leg) → leg.eta ≤ last_moment → failing (lines_in_case rule c state n leg) ≡ map (finding rule n) (places_in_case rule c state leg)
case_fail rule None state n leg within = refl
case_fail rule (Some c) Ahead n leg within = ahead_fail rule c n leg within
case_fail rule (Some c) InFlight n leg within = in_flight_fail rule c n leg
case_fail rule (Some c) Flown n leg within = refl

leg_fail : (plan : Plan) (phase : Phase) (g : Grounds) (c : Option Case) (rule : Rule) (n : ℕ) (leg : Leg) → leg.eta ≤ last_moment
    → failing (lines_for plan phase g c rule n leg) ≡ map (finding rule n) (places_for plan phase g c rule n leg)
leg_fail plan phase g c rule n leg within =
    two_parts rule n (time_lines rule g.tables.settings plan.kind phase n leg g.moment) (lines_in_case rule c (standing phase n) n leg)
    (late_places rule g.tables.settings plan.kind phase n leg g.moment) (places_in_case rule c (standing phase n) leg)
    (time_fail rule g.tables.settings plan.kind phase n leg g.moment) (case_fail rule c (standing phase n) n leg within)

-- two parts of the sheet
joined : (xs ys : List Line) (fs gs : List Finding) → failing xs ≡ fs → failing ys ≡ gs → failing (xs ++ ys) ≡ fs ++ gs
joined xs ys fs gs one other = failing_append xs ys ∙ ap (λ hs. hs ++ failing ys) one ∙ ap (λ hs. fs ++ hs) other

legs_fail : (plan : Plan) (phase : Phase) (g : Grounds) (c : Option Case) (rule : Rule) (n : ℕ) (legs : List Leg) → AllByRecursion HasMoments legs
    → failing (lines_from (lines_for plan phase g c) rule n legs) ≡ findings_from (places_for plan phase g c) rule n legs
legs_fail plan phase g c rule n [] all = refl
legs_fail plan phase g c rule n (leg ∷ legs) all =
    joined (lines_for plan phase g c rule n leg) (lines_from (lines_for plan phase g c) rule (n + 1) legs)
    (map (finding rule n) (places_for plan phase g c rule n leg)) (findings_from (places_for plan phase g c) rule (n + 1) legs)
    (leg_fail plan phase g c rule n leg all.0.1.1) (legs_fail plan phase g c rule (n + 1) legs all.1)

rules_fail : (plan : Plan) (phase : Phase) (g : Grounds) (c : Option Case) (rules : List Rule) (legs : List Leg) → AllByRecursion HasMoments legs
    → failing (lines_by (lines_for plan phase g c) rules legs) ≡ findings_by (places_for plan phase g c) rules legs
rules_fail plan phase g c [] legs all = refl
rules_fail plan phase g c (rule ∷ rules) legs all =
    joined (lines_from (lines_for plan phase g c) rule 1 legs) (lines_by (lines_for plan phase g c) rules legs)
    (findings_from (places_for plan phase g c) rule 1 legs) (findings_by (places_for plan phase g c) rules legs)
    (legs_fail plan phase g c rule 1 legs all) (rules_fail plan phase g c rules legs all)

tables_fail : (bad : Option BadPlan) (aircraft : Option TypeRow) → failing (tables_line bad aircraft ∷ []) ≡ tables_finding bad aircraft
tables_fail (Some bad) aircraft = refl
tables_fail None None = refl
tables_fail None (Some aircraft) = refl

-- the findings are exactly the keys of the lines that fail, in order
pub sheet_fails : (plan : Plan) (phase : Phase) (g : Grounds) → AllByRecursion HasMoments plan.legs → failing (sheet_of plan phase g) ≡ findings_of plan phase g
unfolding sheet_of findings_of
sheet_fails plan phase g all =
    joined (lines_by (lines_for plan phase g (case_for plan g)) rules_of_legs plan.legs) (line_of_tables plan g ∷ [])
    (findings_by (places_for plan phase g (case_for plan g)) rules_of_legs plan.legs) (findings_of_tables plan g)
    (rules_fail plan phase g (case_for plan g) rules_of_legs plan.legs all) (tables_fail (plan_fault g.tables plan) (type_of g.tables plan.tail))

-- The legs and places of the findings of a judgement have their forms.
use Rattle.std.proofs.Common.{◌≡◌, ℕ, ◌+◌, ◌≤◌, Bool, true, false, cond, ◌&&◌, List, [], ◌∷◌, ◌++◌, length, Option, None, Some, IfSome, refl, arith}
use Rattle.std.specs.Prelude.{map, filter}
use Rattle.std.specs.List.{AllByRecursion}
use Rattle.std.specs.Option.{option_map}
use Rattle.deferrals.specs.Limits.{is_of}
use Rattle.deferrals.specs.declared.items.Deferral.{Deferral}
use Rattle.ops_tables.specs.Tables.{TableRows, type_of}
use Rattle.ops_tables.specs.declared.rows.TypeRow.{TypeRow}
use Rattle.plan.specs.Check.{leg_fault, fault_or, first_fault, whole_fault, plan_fault}
use Rattle.plan.specs.Phases.{standing}
use Rattle.plan.specs.declared.check.BadPlan.{BadPlan}
use Rattle.plan.specs.declared.check.PlanWhy.{PlanWhy}
use Rattle.plan.specs.declared.findings.Rule.{Rule}
use Rattle.plan.specs.declared.findings.Rule.TheVariants.{No1, No2, No10, No11, No12, No13, No17, No18, No19}
use Rattle.plan.specs.declared.flights.Leg.{Leg}
use Rattle.plan.specs.declared.flights.Plan.{Plan}
use Rattle.plan.specs.declared.release.Phase.{Phase}
use Rattle.plan.specs.declared.release.Standing.{Standing}
use Rattle.plan.specs.declared.release.Standing.TheVariants.{Ahead, InFlight, Flown}
use Rattle.asks.specs.Forms.{IsAmount, IsId, IsFinding}
use Rattle.release_index.specs.Below.{Case, case_of, place_if, places_from, is_limiting, is_overdue, is_barred, is_barred_takeoff, Grounds, is_of_departure, places_of, places_at, case_unless, case_for, places_in_case, places_for, finding, findings_from, findings_by, tables_finding, findings_of_tables, findings_of, is_late, late_places}
use Rattle.plan.specs.Findings.{rules_of_legs}
use Rattle.desk_state.proofs.Parts.{filter_each}
use Rattle.desk_io.proofs.Each.{each_append, each_weaker, each_of}
use Rattle.plan.proofs.FewAlternates.{HasFew, few_alternates}

-- ---- places

place_formed : (fails : Bool) (place : ℕ) → IsId place → AllByRecursion IsId (place_if fails place)
place_formed true place is = (is, tt)
place_formed false place is = tt

places_formed : {A : Type 0} (fails : A → Bool) (n : ℕ) (xs : List A) → n + length xs ≤ 1000 → AllByRecursion IsId (places_from fails n xs)
places_formed fails n [] few = tt
places_formed fails n (a ∷ xs) few =
    each_append IsId (place_if (fails a) n) (places_from fails (n + 1) xs) (place_formed (fails a) n (omega (arith, few))) (places_formed fails (n + 1) xs (omega (arith, few)))

-- deferrals whose ids can be kept
abbrev HasId : Deferral → Type 0
HasId d = IsId d.id

abbrev pub HaveIds : List Deferral → Type 0
HaveIds ds = AllByRecursion HasId ds

ids_formed : (ds : List Deferral) → HaveIds ds → AllByRecursion IsId (map (λ d. d.id) ds)
ids_formed [] ids = tt
ids_formed (d ∷ ds) ids = (ids.0, ids_formed ds ids.1)

-- the places at which a leg fails a rule
of_formed : (rule : Rule) (c : Case) (ahead : Bool) (leg : Leg) → HaveIds c.deferred → length leg.alternates ≤ 3 → AllByRecursion IsId (places_of rule c ahead leg)
of_formed No1 c ahead leg ids few = tt
of_formed No2 c ahead leg ids few = tt
of_formed No10 c ahead leg ids few = places_formed _ 1 leg.alternates (omega (arith, few))
of_formed No11 c ahead leg ids few = ids_formed (filter (is_limiting c leg) c.deferred) (filter_each HasId (is_limiting c leg) c.deferred ids)
of_formed No12 c ahead leg ids few = ids_formed (filter (is_overdue c leg) c.deferred) (filter_each HasId (is_overdue c leg) c.deferred ids)
of_formed No13 c ahead leg ids few =
    each_append IsId (place_if (is_barred c leg.to) 0 ++ places_from (λ it. is_barred c it.station) 1 leg.alternates) (place_if (ahead && is_barred_takeoff c leg.takeoff_alternate) 9)
    (each_append IsId (place_if (is_barred c leg.to) 0) (places_from (λ it. is_barred c it.station) 1 leg.alternates)
    (place_formed (is_barred c leg.to) 0 (omega arith)) (places_formed (λ it. is_barred c it.station) 1 leg.alternates (omega (arith, few))))
    (place_formed (ahead && is_barred_takeoff c leg.takeoff_alternate) 9 (omega arith))
of_formed No17 c ahead leg ids few = tt
of_formed No18 c ahead leg ids few = tt
of_formed No19 c ahead leg ids few = tt
of_formed _ c ahead leg ids few = place_formed _ 0 (omega arith)

where_departed : (departed : Bool) (places : List ℕ) → AllByRecursion IsId places → AllByRecursion IsId (cond departed [] places)
where_departed true places all = tt
where_departed false places all = all

at_formed : (rule : Rule) (c : Case) (s : Standing) (leg : Leg) → HaveIds c.deferred → length leg.alternates ≤ 3 → AllByRecursion IsId (places_at rule c s leg)
at_formed rule c Ahead leg ids few = of_formed rule c true leg ids few
at_formed rule c InFlight leg ids few = where_departed (is_of_departure rule) (places_of rule c false leg) (of_formed rule c false leg ids few)
at_formed rule c Flown leg ids few = tt

-- what is needed of a case and a leg
abbrev FitsCase : Option Case → Leg → Type 0
FitsCase None leg = Unit {0}
FitsCase (Some c) leg = HaveIds c.deferred × (length leg.alternates ≤ 3)

case_formed : (rule : Rule) (c : Option Case) (s : Standing) (leg : Leg) → FitsCase c leg → AllByRecursion IsId (places_in_case rule c s leg)
case_formed rule None s leg fits = tt
case_formed rule (Some c) s leg fits = at_formed rule c s leg fits.0 fits.1

-- a rule whose places have their forms at a leg, whatever its number
abbrev IsFormedAt : (Rule → ℕ → Leg → List ℕ) → Rule → Leg → Type 0
IsFormedAt places rule leg = (n : ℕ) → AllByRecursion IsId (places rule n leg)

for_formed : (plan : Plan) (phase : Phase) (g : Grounds) (c : Option Case) (rule : Rule) (leg : Leg) → FitsCase c leg → IsFormedAt (places_for plan phase g c) rule leg
for_formed plan phase g c rule leg fits n =
    each_append IsId (late_places rule g.tables.settings plan.kind phase n leg g.moment) (places_in_case rule c (standing phase n) leg)
    (place_formed (is_late rule g.tables.settings plan.kind phase n leg g.moment) 0 (omega arith)) (case_formed rule c (standing phase n) leg fits)

-- ---- the plan that is judged

fits_with : (aircraft : Option TypeRow) (plan : Plan) (g : Grounds) → AllByRecursion HasFew plan.legs → HaveIds g.deferrals
    → AllByRecursion (FitsCase (option_map (case_of g plan) aircraft)) plan.legs
fits_with None plan g few ids = each_of (FitsCase None) (λ leg. tt) plan.legs
fits_with (Some aircraft) plan g few ids =
    each_weaker HasFew (FitsCase (Some (case_of g plan aircraft))) (λ leg h. (filter_each HasId (λ d. is_of plan.tail d) g.deferrals ids, h)) plan.legs few

fits_unless : (bad : Option BadPlan) (plan : Plan) (g : Grounds) → plan_fault g.tables plan ≡ bad → HaveIds g.deferrals → AllByRecursion (FitsCase (case_unless bad plan g)) plan.legs
fits_unless (Some bad) plan g is ids = each_of (FitsCase None) (λ leg. tt) plan.legs
fits_unless None plan g is ids = fits_with (type_of g.tables plan.tail) plan g (few_alternates g.tables plan is) ids

-- the leg that fails a test
abbrev IsLow : BadPlan → Type 0
IsLow bad = bad.leg ≤ 1000

or_low : (why : Option PlanWhy) (n : ℕ) (later : Option BadPlan) → n ≤ 1000 → IfSome later IsLow → IfSome (fault_or why n later) IsLow
or_low None n later within low = low
or_low (Some why) n later within low = within

first_low : (tables : TableRows) (n : ℕ) (before : Option Leg) (legs : List Leg) → n + length legs ≤ 1001 → IfSome (first_fault tables n before legs) IsLow
first_low tables n before [] few = tt
first_low tables n before (leg ∷ legs) few =
    or_low (leg_fault tables before leg) n (first_fault tables (n + 1) (Some leg) legs) (omega (arith, few)) (first_low tables (n + 1) (Some leg) legs (omega (arith, few)))

fault_low : (tables : TableRows) (plan : Plan) → length plan.legs ≤ 1000 → IfSome (plan_fault tables plan) IsLow
unfolding plan_fault
fault_low tables plan few = or_low (whole_fault tables plan) 0 (first_fault tables 1 None plan.legs) (omega arith) (first_low tables 1 None plan.legs (omega (arith, few)))

-- ---- findings

places_found : (rule : Rule) (n : ℕ) (places : List ℕ) → IsAmount n → AllByRecursion IsId places → AllByRecursion IsFinding (map (finding rule n) places)
places_found rule n [] low all = tt
places_found rule n (place ∷ places) low all = (record { leg = low; place = all.0 }, places_found rule n places low all.1)

rule_found : (places : Rule → ℕ → Leg → List ℕ) (rule : Rule) (n : ℕ) (legs : List Leg) → n + length legs ≤ 1001 → AllByRecursion (IsFormedAt places rule) legs
    → AllByRecursion IsFinding (findings_from places rule n legs)
rule_found places rule n [] few all = tt
rule_found places rule n (leg ∷ legs) few all =
    each_append IsFinding (map (finding rule n) (places rule n leg)) (findings_from places rule (n + 1) legs)
    (places_found rule n (places rule n leg) (omega (arith, few)) (all.0 n)) (rule_found places rule (n + 1) legs (omega (arith, few)) all.1)

rules_found : (places : Rule → ℕ → Leg → List ℕ) (rules : List Rule) (legs : List Leg) → length legs ≤ 1000 → ((rule : Rule) → AllByRecursion (IsFormedAt places rule) legs)
    → AllByRecursion IsFinding (findings_by places rules legs)
rules_found places [] legs few all = tt
rules_found places (rule ∷ rules) legs few all =
    each_append IsFinding (findings_from places rule 1 legs) (findings_by places rules legs)
    (rule_found places rule 1 legs (omega (arith, few)) (all rule)) (rules_found places rules legs few all)

tables_found : (bad : Option BadPlan) (aircraft : Option TypeRow) → IfSome bad IsLow → AllByRecursion IsFinding (tables_finding bad aircraft)
tables_found (Some bad) aircraft low = (record { leg = omega (arith, low); place = omega arith }, tt)
tables_found None None low = (record { leg = omega arith; place = omega arith }, tt)
tables_found None (Some aircraft) low = tt

-- The findings of a plan of at most 1,000 legs, where the ids of open deferrals can be kept.
pub findings_formed : (plan : Plan) (phase : Phase) (g : Grounds) → length plan.legs ≤ 1000 → HaveIds g.deferrals → AllByRecursion IsFinding (findings_of plan phase g)
unfolding findings_of
findings_formed plan phase g few ids =
    let places : Rule → ℕ → Leg → List ℕ = places_for plan phase g (case_for plan g) in
    each_append IsFinding (findings_by places rules_of_legs plan.legs) (findings_of_tables plan g)
    (rules_found places rules_of_legs plan.legs few
    (λ rule. each_weaker (FitsCase (case_for plan g)) (IsFormedAt places rule) (λ leg fits. for_formed plan phase g (case_for plan g) rule leg fits) plan.legs
    (fits_unless (plan_fault g.tables plan) plan g refl ids)))
    (tables_found (plan_fault g.tables plan) (type_of g.tables plan.tail) (fault_low g.tables plan few))

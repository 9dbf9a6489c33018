-- A leg of a plan that passes its tests has at most three alternates.
use Rattle.std.proofs.Common.{◌≡◌, ℕ, ◌+◌, ◌≤◌, Bool, true, false, cond, List, [], ◌∷◌, length, Option, None, Some, refl, not, leb-true}
use Rattle.std.specs.List.{AllByRecursion}
use Rattle.ops_tables.specs.Tables.{TableRows}
use Rattle.plan.specs.Check.{has_airports, has_few_alternates, is_repeated, flight_fault, leg_fault, fault_or, first_fault, whole_fault, plan_fault}
use Rattle.plan.specs.declared.check.BadPlan.{BadPlan}
use Rattle.plan.specs.declared.check.PlanWhy.{PlanWhy}
use Rattle.plan.specs.declared.check.PlanWhy.TheVariants.{NoAirport, Count, Repeated}
use Rattle.plan.specs.declared.flights.Leg.{Leg}
use Rattle.plan.specs.declared.flights.Plan.{Plan}

abbrev pub HasFew : Leg → Type 0
HasFew leg = length leg.alternates ≤ 3

no_fault : (why : Option PlanWhy) (n : ℕ) (later : Option BadPlan) → fault_or why n later ≡ None → (why ≡ None) × (later ≡ None)
no_fault None n later e = (refl, e)
no_fault (Some why) n later e = absurd (cc)

few_by : (airports few : Bool) (rest : Option PlanWhy) → cond (not airports) (Some NoAirport) (cond (not few) (Some Count) rest) ≡ None → few ≡ true
few_by true true rest e = refl
few_by true false rest e = absurd (cc)
few_by false few rest e = absurd (cc)

few_of : (tables : TableRows) (before : Option Leg) (leg : Leg) → leg_fault tables before leg ≡ None → HasFew leg
few_of tables before leg e = leb-true (length leg.alternates) 3 (few_by (has_airports tables leg) (has_few_alternates leg) (cond (is_repeated leg) (Some Repeated) (flight_fault before leg)) e)

few_from : (tables : TableRows) (n : ℕ) (before : Option Leg) (legs : List Leg) → first_fault tables n before legs ≡ None → AllByRecursion HasFew legs
few_from tables n before [] e = tt
few_from tables n before (leg ∷ legs) e =
    let none = no_fault (leg_fault tables before leg) n (first_fault tables (n + 1) (Some leg) legs) e in
    (few_of tables before leg none.0, few_from tables (n + 1) (Some leg) legs none.1)

pub few_alternates : (tables : TableRows) (plan : Plan) → plan_fault tables plan ≡ None → AllByRecursion HasFew plan.legs
unfolding plan_fault
few_alternates tables plan e = few_from tables 1 None plan.legs (no_fault (whole_fault tables plan) 0 (first_fault tables 1 None plan.legs) e).1

-- Findings stand in order, each once, each says the truth, and none is left out.
use Rattle.std.proofs.Common.{◌≡◌, ℕ, ◌<◌, List, [], ◌++◌, Contains, Option, None, Some, inl, inr, append-nil, refl, sym, subst, arith}
use Rattle.std.specs.List.{AllByRecursion}
use Rattle.std.specs.Option.{option_map}
use Rattle.std.proofs.lemmas.List.Kept.{AllPairs-filter}
use Rattle.std.proofs.lemmas.List.Elements.{All-contains_itself, Contains-append_left, Contains-append_right}
use Rattle.ops_tables.specs.declared.rows.TypeRow.{TypeRow}
use Rattle.ops_tables.specs.Tables.{type_of}
use Rattle.plan.specs.Check.{plan_fault}
use Rattle.plan.specs.Findings.{AreInOrder, rules_of_legs}
use Rattle.plan.specs.declared.check.BadPlan.{BadPlan}
use Rattle.plan.specs.declared.flights.Plan.{Plan}
use Rattle.plan.specs.declared.flights.Leg.{Leg}
use Rattle.plan.specs.declared.release.Phase.{Phase}
use Rattle.plan.specs.declared.findings.Rule.{Rule}
use Rattle.plan.specs.declared.findings.Rule.TheVariants.{No19}
use Rattle.plan.specs.Phases.{standing}
use Rattle.deferrals.specs.Held.{AreRising}
use Rattle.deferrals.specs.Limits.{is_of}
use Rattle.rules.specs.Grounds.{Grounds}
use Rattle.rules.specs.Circumstances.{Case, case_of}
use Rattle.rules.specs.Judgement.{case_unless, case_for, places_for, finding, findings_by, tables_finding, findings_of_tables, findings_of, IsTrueOf, NamesAll}
use Rattle.rules.proofs.Order.{rules_in_order, RisesAt, FitsCase, in_order_then, no_place, places_for_rise}
use Rattle.rules.proofs.Truth.{each_of_all, Says, true_rules, named}
use Rattle.desk_io.proofs.Each.{each_append, each_weaker, each_of}
use Rattle.plan.proofs.FewAlternates.{HasFew, few_alternates}

-- a plan that has a case passes its tests, so that its legs have few alternates, and ids of deferrals rise in the case
fits_with : (aircraft : Option TypeRow) (plan : Plan) (g : Grounds) → AllByRecursion HasFew plan.legs → AreRising g.deferrals → AllByRecursion (FitsCase (option_map (case_of g plan) aircraft)) plan.legs
fits_with None plan g few rising = each_of (FitsCase None) (λ leg. tt) plan.legs
fits_with (Some aircraft) plan g few rising =
    each_weaker HasFew (FitsCase (Some (case_of g plan aircraft)))
    (λ leg h. (AllPairs-filter (λ e l. e.id < l.id) (λ d. is_of plan.tail d) g.deferrals rising, omega (arith, h))) plan.legs few

fits_unless : (bad : Option BadPlan) (plan : Plan) (g : Grounds) → plan_fault g.tables plan ≡ bad → AreRising g.deferrals → AllByRecursion (FitsCase (case_unless bad plan g)) plan.legs
fits_unless (Some bad) plan g is rising = each_of (FitsCase None) (λ leg. tt) plan.legs
fits_unless None plan g is rising = fits_with (type_of g.tables plan.tail) plan g (few_alternates g.tables plan is) rising

-- the findings of legs stand in order
legs_in_order : (plan : Plan) (phase : Phase) (g : Grounds) → AreRising g.deferrals → AreInOrder (findings_by (places_for plan phase g (case_for plan g)) rules_of_legs plan.legs)
legs_in_order plan phase g rising =
    rules_in_order (places_for plan phase g (case_for plan g)) rules_of_legs plan.legs refl
    (λ rule. each_weaker (FitsCase (case_for plan g)) (RisesAt (places_for plan phase g (case_for plan g)) rule)
    (λ leg fits. places_for_rise plan phase g (case_for plan g) rule leg fits) plan.legs (fits_unless (plan_fault g.tables plan) plan g refl rising))

-- and that of the tables after them
order_then : (places : Rule → ℕ → Leg → List ℕ) (legs : List Leg) (bad : Option BadPlan) (aircraft : Option TypeRow) → AreInOrder (findings_by places rules_of_legs legs)
    → AreInOrder (findings_by places rules_of_legs legs ++ tables_finding bad aircraft)
order_then places legs (Some bad) aircraft order = in_order_then places rules_of_legs legs (finding No19 bad.leg 0) refl order
order_then places legs None None order = in_order_then places rules_of_legs legs (finding No19 0 0) refl order
order_then places legs None (Some aircraft) order = subst AreInOrder (sym (append-nil (findings_by places rules_of_legs legs))) order

-- findings stand in order, each once
pub findings_in_order : (plan : Plan) (phase : Phase) (g : Grounds) → AreRising g.deferrals → AreInOrder (findings_of plan phase g)
unfolding findings_of
findings_in_order plan phase g rising =
    order_then (places_for plan phase g (case_for plan g)) plan.legs (plan_fault g.tables plan) (type_of g.tables plan.tail) (legs_in_order plan phase g rising)

-- each finding says the truth
pub findings_are_true : (plan : Plan) (phase : Phase) (g : Grounds) → AllByRecursion (IsTrueOf plan phase g) (findings_of plan phase g)
unfolding findings_of
findings_are_true plan phase g =
    let places : Rule → ℕ → Leg → List ℕ = places_for plan phase g (case_for plan g) in
    each_append (IsTrueOf plan phase g) (findings_by places rules_of_legs plan.legs) (findings_of_tables plan g)
    (each_weaker (Says places 1 plan.legs) (IsTrueOf plan phase g) (λ f is. inl is.fails) (findings_by places rules_of_legs plan.legs) (true_rules places rules_of_legs plan.legs))
    (each_weaker (Contains (findings_of_tables plan g)) (IsTrueOf plan phase g) (λ f there. inr there) (findings_of_tables plan g)
    (each_of_all (Contains (findings_of_tables plan g)) (findings_of_tables plan g) (All-contains_itself (findings_of_tables plan g))))

-- the rule of the tables fails at no leg
never : (plan : Plan) (phase : Phase) (g : Grounds) (c : Option Case) (n : ℕ) (leg : Leg) → places_for plan phase g c No19 n leg ≡ []
never plan phase g c n leg = no_place No19 c (standing phase n) leg (λ each ahead. refl) refl

-- each failing of a rule is among the findings
pub findings_name_all : (plan : Plan) (phase : Phase) (g : Grounds) → NamesAll plan phase g (findings_of plan phase g)
unfolding findings_of
findings_name_all plan phase g rule leg place fails =
    let places : Rule → ℕ → Leg → List ℕ = places_for plan phase g (case_for plan g) in
    elim fails [
      | inl at ↦ Contains-append_left (findings_by places rules_of_legs plan.legs) (findings_of_tables plan g) (finding rule leg place)
          (named places rule plan.legs leg place (never plan phase g (case_for plan g)) at)
      | inr there ↦ Contains-append_right (findings_by places rules_of_legs plan.legs) (findings_of_tables plan g) (finding rule leg place) there
    ]

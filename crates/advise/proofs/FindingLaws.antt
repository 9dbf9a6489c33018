-- Tests of the findings on one leg, by the places at which its rules fail.
use Rattle.std.proofs.Common.{◌≡◌, ℕ, ◌+◌, ◌<◌, ◌==◌, Bool, true, false, ◌&&◌, ◌||◌, List, [], ◌∷◌, Option, None, Some, refl, sym, ap, ◌∙◌, arith}
use Rattle.std.specs.Prelude.{map, cond}
use Rattle.std.specs.List.{list_any}
use Rattle.std.proofs.lemmas.Bool.{eqb-true, eq-eqb, ne_eqb, or_from, and_right}
use Rattle.std.proofs.lemmas.List.Folds.{list_any-append}
use Rattle.ops_tables.specs.declared.rows.TypeRow.{TypeRow}
use Rattle.ops_tables.specs.Tables.{type_of}
use Rattle.plan.specs.Check.{plan_fault}
use Rattle.plan.specs.Findings.{rules_of_legs}
use Rattle.plan.specs.declared.check.BadPlan.{BadPlan}
use Rattle.plan.specs.declared.findings.Rule.{Rule}
use Rattle.plan.specs.declared.findings.Rule.TheVariants.{No19}
use Rattle.plan.specs.declared.flights.Leg.{Leg}
use Rattle.plan.specs.declared.flights.Plan.{Plan}
use Rattle.plan.specs.declared.release.Phase.{Phase}
use Rattle.rules.specs.Grounds.{Grounds}
use Rattle.rules.specs.Judgement.{case_for, places_for, finding, findings_from, findings_by, tables_finding, findings_of_tables, findings_of, leg_numbered}
use Rattle.advise.specs.Verdicts.{is_on}

-- the places at which the leg of a number fails a rule
abbrev pub places_on : (Rule → ℕ → Leg → List ℕ) → Rule → ℕ → Option Leg → List ℕ
places_on places rule number None = []
places_on places rule number (Some leg) = places rule number leg

or_false : (b : Bool) → (b || false) ≡ b
or_false true = refl
or_false false = refl

module _ (number : ℕ) (test : Rule → ℕ → Bool) where
  on_this_leg : (rule : Rule) (places : List ℕ) → list_any (is_on number test) (map (finding rule number) places) ≡ list_any (test rule) places
  on_this_leg rule [] = refl
  on_this_leg rule (p ∷ places) =
      ap (λ b. (b && test rule p) || list_any (is_on number test) (map (finding rule number) places)) (eq-eqb number number refl)
      ∙ ap (λ b. test rule p || b) (on_this_leg rule places)

  on_another : (rule : Rule) (other : ℕ) (places : List ℕ) → (other == number) ≡ false → list_any (is_on number test) (map (finding rule other) places) ≡ false
  on_another rule other [] e = refl
  on_another rule other (p ∷ places) e =
      ap (λ b. (b && test rule p) || list_any (is_on number test) (map (finding rule other) places)) e ∙ on_another rule other places e

  module _ (places : Rule → ℕ → Leg → List ℕ) where
    none_after : (rule : Rule) (first : ℕ) (legs : List Leg) → number < first → list_any (is_on number test) (findings_from places rule first legs) ≡ false
    none_after rule first [] after = refl
    none_after rule first (leg ∷ legs) after =
        list_any-append (is_on number test) (map (finding rule first) (places rule first leg)) (findings_from places rule (first + 1) legs)
        ∙ or_from (list_any (is_on number test) (map (finding rule first) (places rule first leg))) (list_any (is_on number test) (findings_from places rule (first + 1) legs))
        (on_another rule first (places rule first leg) (let ne : first ≡ number → ⊥ = λ e. omega (arith, e, after) in ne_eqb first number ne))
        (none_after rule (first + 1) legs (omega (arith, after)))

    on_leg_if : (b : Bool) (rule : Rule) (first : ℕ) (leg : Leg) (legs : List Leg) → (number == first) ≡ b
        → list_any (is_on number test) (findings_from places rule (first + 1) legs) ≡ list_any (test rule) (places_on places rule number (leg_numbered number (first + 1) legs))
        → list_any (is_on number test) (map (finding rule first) (places rule first leg)) || list_any (is_on number test) (findings_from places rule (first + 1) legs)
        ≡ list_any (test rule) (places_on places rule number (cond b (Some leg) (leg_numbered number (first + 1) legs)))
    on_leg_if true rule first leg legs e rest =
        let same = eqb-true number first e in
        ap (λ b. list_any (is_on number test) (map (finding rule first) (places rule first leg)) || b) (none_after rule (first + 1) legs (omega (arith, same)))
        ∙ or_false (list_any (is_on number test) (map (finding rule first) (places rule first leg)))
        ∙ ap (λ n. list_any (is_on number test) (map (finding rule n) (places rule n leg))) (sym same)
        ∙ on_this_leg rule (places rule number leg)
    on_leg_if false rule first leg legs e rest =
        ap (λ b. b || list_any (is_on number test) (findings_from places rule (first + 1) legs))
        (on_another rule first (places rule first leg) (let ne : first ≡ number → ⊥ = λ same. absurd (let f : false ≡ true = sym e ∙ eq-eqb number first (sym same) in cc) in ne_eqb first number ne))
        ∙ rest

    on_leg : (rule : Rule) (first : ℕ) (legs : List Leg) → list_any (is_on number test) (findings_from places rule first legs) ≡ list_any (test rule) (places_on places rule number (leg_numbered number first legs))
    on_leg rule first [] = refl
    on_leg rule first (leg ∷ legs) =
        list_any-append (is_on number test) (map (finding rule first) (places rule first leg)) (findings_from places rule (first + 1) legs)
        ∙ on_leg_if (number == first) rule first leg legs refl (on_leg rule (first + 1) legs)

    on_leg_by : (rules : List Rule) (legs : List Leg) → list_any (is_on number test) (findings_by places rules legs) ≡ list_any (λ rule. list_any (test rule) (places_on places rule number (leg_numbered number 1 legs))) rules
    on_leg_by [] legs = refl
    on_leg_by (rule ∷ rules) legs =
        list_any-append (is_on number test) (findings_from places rule 1 legs) (findings_by places rules legs)
        ∙ ap (λ b. b || list_any (is_on number test) (findings_by places rules legs)) (on_leg rule 1 legs)
        ∙ ap (λ b. list_any (test rule) (places_on places rule number (leg_numbered number 1 legs)) || b) (on_leg_by rules legs)

  -- the finding on the tables doesn't count, since no plan fails its tests here and a missing type is a finding on no leg
  none_of_tables : (aircraft : Option TypeRow) → ((place : ℕ) → test No19 place ≡ false) → list_any (is_on number test) (tables_finding None aircraft) ≡ false
  none_of_tables None never = or_from ((0 == number) && test No19 0) false (and_right (0 == number) (test No19 0) (never 0)) refl
  none_of_tables (Some aircraft) never = refl

  -- whether a finding on the leg of the number meets the test
  pub any_on : (plan : Plan) (phase : Phase) (g : Grounds) → plan_fault g.tables plan ≡ None → ((place : ℕ) → test No19 place ≡ false)
      → list_any (is_on number test) (findings_of plan phase g) ≡ list_any (λ rule. list_any (test rule) (places_on (places_for plan phase g (case_for plan g)) rule number (leg_numbered number 1 plan.legs))) rules_of_legs
  unfolding findings_of
  any_on plan phase g valid never =
      list_any-append (is_on number test) (findings_by (places_for plan phase g (case_for plan g)) rules_of_legs plan.legs) (findings_of_tables plan g)
      ∙ ap (λ b. list_any (is_on number test) (findings_by (places_for plan phase g (case_for plan g)) rules_of_legs plan.legs) || b)
      (ap (λ (bad : Option BadPlan). list_any (is_on number test) (tables_finding bad (type_of g.tables plan.tail))) valid ∙ none_of_tables (type_of g.tables plan.tail) never)
      ∙ or_false (list_any (is_on number test) (findings_by (places_for plan phase g (case_for plan g)) rules_of_legs plan.legs))
      ∙ on_leg_by (places_for plan phase g (case_for plan g)) rules_of_legs plan.legs

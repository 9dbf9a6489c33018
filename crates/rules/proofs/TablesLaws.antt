-- The rule of the tables names exactly the first thing that they don't allow.
use Rattle.std.proofs.Common.{◌≡◌, ◌↔◌, ◌⊎◌, inl, inr, ℕ, ◌+◌, ◌-◌, ◌<◌, ◌≤◌, ◌==◌, Bool, true, false, if◌then◌else◌, eqb, List, [], ◌∷◌, get_or, Contains, Option, None, Some, refl, ap, sym, subst, ◌∙◌, eq-eqb, arith}
use Rattle.std.specs.Prelude.{is_none, nat_lt, IsSome}
use Rattle.std.proofs.lemmas.Bool.{eqb-true, ltb-false, ltb-true, ne_eqb}
use Rattle.ops_tables.specs.Tables.{TableRows, type_of}
use Rattle.ops_tables.specs.declared.rows.TypeRow.{TypeRow}
use Rattle.plan.specs.Check.{fault_or, leg_fault, first_fault, whole_fault, plan_fault}
use Rattle.plan.specs.declared.check.BadPlan.{BadPlan}
use Rattle.plan.specs.declared.check.PlanWhy.{PlanWhy}
use Rattle.plan.specs.declared.flights.Plan.{Plan}
use Rattle.plan.specs.declared.flights.Leg.{Leg}
use Rattle.plan.specs.declared.findings.Finding.{Finding}
use Rattle.plan.specs.declared.findings.Rule.TheVariants.{No19}
use Rattle.rules.specs.Grounds.{Grounds}
use Rattle.rules.specs.Judgement.{finding, findings_of_tables, tables_finding, leg_numbered}
use Rattle.rules.specs.Planned.{IsOfAirline, MayFollow}
use Rattle.rules.specs.Regulation.{IsSilent, IsLegAllowed, FollowsTables}
use Rattle.rules.proofs.PlannedTells.{leg_tells, whole_tells}
use Rattle.rules.proofs.Tells.{Tells}

-- ---- legs by their numbers

-- the leg before a number, if the first leg has number n and follows `before`
abbrev prior : ℕ → Option Leg → List Leg → ℕ → Option Leg
prior n before legs number = if number == n then before else leg_numbered (number - 1) n legs

abbrev MayBe : TableRows → ℕ → Option Leg → List Leg → ℕ → Type 0
MayBe tables n before legs number = (leg : Leg) → leg_numbered number n legs ≡ Some leg → MayFollow tables (prior n before legs number) leg

here_or_later : (n k : ℕ) → n ≤ k → (k ≡ n) ⊎ (n < k)
here_or_later n k low = by (eqb k n) refl
  where
    by : (b : Bool) → eqb k n ≡ b → (k ≡ n) ⊎ (n < k)
    by true e = inl (eqb-true k n e)
    by false e = let ne : k ≡ n → ⊥ = λ same. (let is = eq-eqb k n same in absurd (let f : false ≡ true = sym e ∙ is in cc)) in inr (omega (arith, low, ne))

later_test : (n k : ℕ) → n < k → eqb (k - 1) n ≡ eqb k (n + 1)
later_test n k less = by (eqb k (n + 1)) refl
  where
    by : (b : Bool) → eqb k (n + 1) ≡ b → eqb (k - 1) n ≡ b
    by true e = let same = eqb-true k (n + 1) e in eq-eqb (k - 1) n (omega (arith, same))
    by false e = ne_eqb (k - 1) n (λ same. let is = eq-eqb k (n + 1) (omega (arith, same, less)) in absurd (let f : false ≡ true = sym e ∙ is in cc))

later_leg : (n k : ℕ) (l : Leg) (ls : List Leg) → n < k → leg_numbered k n (l ∷ ls) ≡ leg_numbered k (n + 1) ls
later_leg n k l ls less = rw (ne_eqb k n (λ e. absurd (omega (arith, e, less)))) refl

later_prior : (n k : ℕ) (before : Option Leg) (l : Leg) (ls : List Leg) → n < k → prior n before (l ∷ ls) k ≡ prior (n + 1) (Some l) ls k
later_prior n k before l ls less = rw (ne_eqb k n (λ e. absurd (omega (arith, e, less)))) (ap (λ (b : Bool). if b then Some l else leg_numbered (k - 1) (n + 1) ls) (later_test n k less))

first_leg : (n : ℕ) (l : Leg) (ls : List Leg) → leg_numbered n n (l ∷ ls) ≡ Some l
first_leg n l ls = rw (eq-eqb n n refl) refl

first_prior : (n : ℕ) (before : Option Leg) (ls : List Leg) → prior n before ls n ≡ before
first_prior n before ls = rw (eq-eqb n n refl) refl

here : (tables : TableRows) (n : ℕ) (before : Option Leg) (l : Leg) (ls : List Leg) → MayFollow tables before l → MayBe tables n before (l ∷ ls) n
here tables n before l ls may leg at =
    let same : l ≡ leg = (let e = sym (first_leg n l ls) ∙ at in cc) in
    subst (λ (x : Leg). MayFollow tables (prior n before (l ∷ ls) n) x) same (subst (λ (o : Option Leg). MayFollow tables o l) (sym (first_prior n before (l ∷ ls))) may)

there : (tables : TableRows) (n k : ℕ) (before : Option Leg) (l : Leg) (ls : List Leg) → n < k → MayBe tables (n + 1) (Some l) ls k → MayBe tables n before (l ∷ ls) k
there tables n k before l ls less may leg at =
    subst (λ (o : Option Leg). MayFollow tables o leg) (sym (later_prior n k before l ls less)) (may leg (sym (later_leg n k l ls less) ∙ at))

each_from : (tables : TableRows) (n k : ℕ) (before : Option Leg) (l : Leg) (ls : List Leg) → n ≤ k → MayFollow tables before l → (n + 1 ≤ k → MayBe tables (n + 1) (Some l) ls k) → MayBe tables n before (l ∷ ls) k
each_from tables n k before l ls low may later =
    elim (here_or_later n k low) [
      | inl same ↦ subst (MayBe tables n before (l ∷ ls)) (sym same) (here tables n before l ls may)
      | inr less ↦ there tables n k before l ls less (later (omega (arith, less)))
    ]

-- ---- the first fault

-- the leg of this number is the first that the tables don't allow
record IsFirstBarred (tables : TableRows) (n : ℕ) (before : Option Leg) (legs : List Leg) (number : ℕ) : Type 0 where
  leg : Leg
  at : leg_numbered number n legs ≡ Some leg
  barred : MayFollow tables (prior n before legs number) leg → ⊥
  low : n ≤ number
  earlier : (k : ℕ) → n ≤ k → k < number → MayBe tables n before legs k

abbrev Says : TableRows → ℕ → Option Leg → List Leg → Option BadPlan → Type 0
Says tables n before legs None = (k : ℕ) → n ≤ k → MayBe tables n before legs k
Says tables n before legs (Some bad) = IsFirstBarred tables n before legs bad.leg

says_by : (tables : TableRows) (n : ℕ) (before : Option Leg) (l : Leg) (ls : List Leg) (why : Option PlanWhy) (later : Option BadPlan) → Tells (is_none why) (MayFollow tables before l)
    → Says tables (n + 1) (Some l) ls later → Says tables n before (l ∷ ls) (fault_or why n later)
says_by tables n before l ls (Some why) later tells says = record {
  leg = l;
  at = first_leg n l ls;
  barred = λ may. tells (subst (λ (o : Option Leg). MayFollow tables o l) (first_prior n before (l ∷ ls)) may);
  low = omega arith;
  earlier = λ k low below. absurd (omega (arith, low, below));
}
says_by tables n before l ls None None tells says = λ k low. each_from tables n k before l ls low tells (says k)
says_by tables n before l ls None (Some bad) tells says =
    let less : n < bad.leg = (let low = says.low in omega (arith, low)) in
    record {
      leg = says.leg;
      at = later_leg n bad.leg l ls less ∙ says.at;
      barred = λ may. says.barred (subst (λ (o : Option Leg). MayFollow tables o says.leg) (later_prior n bad.leg before l ls less) may);
      low = omega (arith, less);
      earlier = λ k low below. each_from tables n k before l ls low tells (λ later. says.earlier k later below);
    }

says : (tables : TableRows) (n : ℕ) (before : Option Leg) (legs : List Leg) → Says tables n before legs (first_fault tables n before legs)
says tables n before [] = λ k low leg at. absurd (cc)
says tables n before (l ∷ ls) =
    says_by tables n before l ls (leg_fault tables before l) (first_fault tables (n + 1) (Some l) ls) (leg_tells tables before l) (says tables (n + 1) (Some l) ls)

-- ---- the whole plan

none_below : (k n : ℕ) (legs : List Leg) → k < n → leg_numbered k n legs ≡ None
none_below k n [] below = refl
none_below k n (l ∷ ls) below = rw (ne_eqb k n (λ e. absurd (omega (arith, e, below)))) (none_below k (n + 1) ls (omega (arith, below)))

first_of_all : (legs : List Leg) (number : ℕ) → prior 1 None legs number ≡ leg_numbered (number - 1) 1 legs
first_of_all legs number = by (eqb number 1) refl
  where
    by : (b : Bool) → eqb number 1 ≡ b → (if b then None else leg_numbered (number - 1) 1 legs) ≡ leg_numbered (number - 1) 1 legs
    by true e = let same = eqb-true number 1 e in sym (none_below (number - 1) 1 legs (omega (arith, same)))
    by false e = refl

allowed : (plan : Plan) (g : Grounds) (number : ℕ) → MayBe g.tables 1 None plan.legs number → IsLegAllowed plan g number
allowed plan g number may leg at = subst (λ (o : Option Leg). MayFollow g.tables o leg) (first_of_all plan.legs number) (may leg at)

-- the first leg that isn't allowed, of a plan
record IsFirst (plan : Plan) (g : Grounds) (number : ℕ) : Type 0 where
  low : 0 < number
  barred : IsLegAllowed plan g number → ⊥
  earlier : (k : ℕ) → k < number → IsLegAllowed plan g k

never_numbered : (plan : Plan) (g : Grounds) (k : ℕ) → k < 1 → IsLegAllowed plan g k
never_numbered plan g k below leg at = absurd (let none = none_below k 1 plan.legs below in let e = sym none ∙ at in cc)

first_barred : (plan : Plan) (g : Grounds) (number : ℕ) → IsFirstBarred g.tables 1 None plan.legs number → IsFirst plan g number
first_barred plan g number is = record {
  low = let low = is.low in omega (arith, low);
  barred = λ may. is.barred (subst (λ (o : Option Leg). MayFollow g.tables o is.leg) (sym (first_of_all plan.legs number)) (may is.leg is.at));
  earlier = λ k below. elim (here_or_later 0 k (omega arith)) [
    | inl none ↦ never_numbered plan g k (omega (arith, none))
    | inr some ↦ allowed plan g k (is.earlier k (omega (arith, some)) below)
  ];
}

abbrev PlanSays : Plan → Grounds → Option BadPlan → Type 0
PlanSays plan g None = IsOfAirline g.tables plan × ((k : ℕ) → 1 ≤ k → IsLegAllowed plan g k)
PlanSays plan g (Some bad) = ((bad.leg ≡ 0) × (IsOfAirline g.tables plan → ⊥)) ⊎ (IsOfAirline g.tables plan × IsFirst plan g bad.leg)

plan_says_by : (plan : Plan) (g : Grounds) (why : Option PlanWhy) (later : Option BadPlan) → Tells (is_none why) (IsOfAirline g.tables plan) → Says g.tables 1 None plan.legs later
    → PlanSays plan g (fault_or why 0 later)
plan_says_by plan g (Some why) later tells each = inl (refl, tells)
plan_says_by plan g None None tells each = (tells, λ k low. allowed plan g k (each k low))
plan_says_by plan g None (Some bad) tells each = inr (tells, first_barred plan g bad.leg each)

plan_says : (plan : Plan) (g : Grounds) → PlanSays plan g (plan_fault g.tables plan)
unfolding plan_fault
plan_says plan g = plan_says_by plan g (whole_fault g.tables plan) (first_fault g.tables 1 None plan.legs) (whole_tells g.tables plan) (says g.tables 1 None plan.legs)

-- ---- the finding

only_leg : (n number place : ℕ) → Contains (finding No19 n 0 ∷ []) (finding No19 number place) → number ≡ n
only_leg n number place there = by there.0 there.1 there.2
  where
    by : (i : ℕ) → i < 1 → get_or (finding No19 n 0 ∷ []) i (finding No19 number place) ≡ finding No19 number place → number ≡ n
    by i within is =
        let first : i ≡ 0 = omega (arith, within) in
        sym (ap (λ f. f.leg) (subst (λ k. get_or (finding No19 n 0 ∷ []) k (finding No19 number place) ≡ finding No19 number place) first is))

named : (n number : ℕ) → number ≡ n → Contains (finding No19 n 0 ∷ []) (finding No19 number 0)
named n number same = (0, omega arith, ap (λ k. finding No19 k 0) (sym same))

none_there : (f : Finding) → Contains [] f → ⊥
none_there f there = let within = there.1 in omega (arith, within)

all_allowed : (plan : Plan) (g : Grounds) → ((k : ℕ) → 1 ≤ k → IsLegAllowed plan g k) → (number : ℕ) → IsLegAllowed plan g number
all_allowed plan g each number =
    elim (here_or_later 0 number (omega arith)) [
      | inl none ↦ never_numbered plan g number (omega (arith, none))
      | inr some ↦ each number (omega (arith, some))
    ]

whole_by : (plan : Plan) (g : Grounds) (o : Option BadPlan) (aircraft : Option TypeRow) → PlanSays plan g o
    → IsSilent (tables_finding o aircraft) No19 0 ↔ (IsOfAirline g.tables plan × (((number : ℕ) → IsLegAllowed plan g number) → IsSome aircraft))
whole_by plan g (Some bad) aircraft (inl not_own) = (λ silent. absurd (silent 0 (named bad.leg 0 (sym not_own.0))), λ own place there. not_own.1 own.0)
whole_by plan g (Some bad) aircraft (inr first) =
    (λ silent. (first.0, λ all. absurd (first.1.barred (all bad.leg))), λ own place there. let same = only_leg bad.leg 0 place there in let low = first.1.low in omega (arith, same, low))
whole_by plan g None None both = (λ silent. absurd (silent 0 (named 0 0 refl)), λ own place there. absurd (let e = own.1 (all_allowed plan g both.1) in cc))
whole_by plan g None (Some aircraft) both = (λ silent. (both.0, λ all. refl), λ own place there. none_there (finding No19 0 place) there)

-- a leg before the first one that isn't allowed, that one, or one after it
compared : (plan : Plan) (g : Grounds) (bad : BadPlan) (aircraft : Option TypeRow) (number : ℕ) → IsFirst plan g bad.leg → IsSilent (tables_finding (Some bad) aircraft) No19 number
    → ((earlier : ℕ) → earlier < number → IsLegAllowed plan g earlier) → IsLegAllowed plan g number
compared plan g bad aircraft number first silent earlier = by (nat_lt number bad.leg) refl
  where
    after : (number ≡ bad.leg) ⊎ (bad.leg < number) → IsLegAllowed plan g number
    after (inl same) = absurd (silent 0 (named bad.leg number same))
    after (inr less) = absurd (first.barred (earlier bad.leg less))

    by : (b : Bool) → nat_lt number bad.leg ≡ b → IsLegAllowed plan g number
    by true e = first.earlier number (ltb-true number bad.leg e)
    by false e = after (here_or_later bad.leg number (ltb-false number bad.leg e))

legs_by : (plan : Plan) (g : Grounds) (o : Option BadPlan) (aircraft : Option TypeRow) (number : ℕ) → 0 < number → PlanSays plan g o
    → IsSilent (tables_finding o aircraft) No19 number ↔ (IsOfAirline g.tables plan → ((earlier : ℕ) → earlier < number → IsLegAllowed plan g earlier) → IsLegAllowed plan g number)
legs_by plan g (Some bad) aircraft number low (inl not_own) =
    (λ silent own earlier. absurd (not_own.1 own), λ f place there. let same = only_leg bad.leg number place there in let zero = not_own.0 in omega (arith, same, zero, low))
legs_by plan g (Some bad) aircraft number low (inr first) = (
  λ silent own earlier. compared plan g bad aircraft number first.1 silent earlier,
  λ f place there. let same = only_leg bad.leg number place there in
      first.1.barred (subst (IsLegAllowed plan g) same (f first.0 (λ k below. first.1.earlier k (omega (arith, same, below))))),
)
legs_by plan g None None number low both = (λ silent own earlier. both.1 number (omega (arith, low)), λ f place there. let same = only_leg 0 number place there in omega (arith, same, low))
legs_by plan g None (Some aircraft) number low both = (λ silent own earlier. both.1 number (omega (arith, low)), λ f place there. none_there (finding No19 number place) there)

-- silent of the rule in one list exactly where silent in the other
silent_in : (fs hs : List Finding) (number : ℕ) (S : Type 0) → ((place : ℕ) → Contains fs (finding No19 number place) → Contains hs (finding No19 number place))
    → ((place : ℕ) → Contains hs (finding No19 number place) → Contains fs (finding No19 number place)) → IsSilent hs No19 number ↔ S → IsSilent fs No19 number ↔ S
silent_in fs hs number S to from exact = (λ silent. exact.0 (λ place there. silent place (from place there)), λ is place there. exact.1 is place (to place there))

-- the findings follow the tables, if those of this rule are those of the tables
pub follow_tables : (plan : Plan) (g : Grounds) (fs : List Finding) → ((number place : ℕ) → Contains fs (finding No19 number place) → Contains (findings_of_tables plan g) (finding No19 number place))
    → ((number place : ℕ) → Contains (findings_of_tables plan g) (finding No19 number place) → Contains fs (finding No19 number place)) → FollowsTables plan g fs
follow_tables plan g fs to from = record {
  whole = silent_in fs (findings_of_tables plan g) 0 _ (to 0) (from 0) (whole_by plan g (plan_fault g.tables plan) (type_of g.tables plan.tail) (plan_says plan g));
  legs = λ number low. silent_in fs (findings_of_tables plan g) number _ (to number) (from number) (legs_by plan g (plan_fault g.tables plan) (type_of g.tables plan.tail) number low (plan_says plan g));
}

-- Findings of rules are true, and none is left out.
use Rattle.std.proofs.Common.{◌≡◌, ℕ, zero, suc, ◌+◌, ◌<◌, ◌≤◌, ◌==◌, if◌then◌else◌, Bool, true, false, List, [], ◌∷◌, ◌++◌, length, get_or, Contains, Option, None, Some, inl, inr, refl, ap, sym, subst, eq-eqb, lit<, arith}
use Rattle.std.specs.Prelude.{map, ◌⊎◌}
use Rattle.std.specs.List.{All, AllByRecursion}
use Rattle.std.proofs.lemmas.Bool.{ne_eqb, eqb-true}
use Rattle.std.proofs.lemmas.List.Elements.{All-head, All-tail, All-contains_itself, Contains-append_left, Contains-append_right}
use Rattle.plan.specs.declared.flights.Leg.{Leg}
use Rattle.plan.specs.declared.findings.Finding.{Finding}
use Rattle.plan.specs.declared.findings.Rule.{Rule}
use Rattle.plan.specs.declared.findings.Rule.TheVariants.{No1, No2, No3, No4, No5, No6, No7, No8, No9, No10, No11, No12, No13, No14, No15, No16, No17, No18, No19}
use Rattle.rules.specs.Judgement.{finding, findings_from, findings_by, leg_numbered, FailsAt}
use Rattle.plan.specs.Findings.{rules_of_legs}
use Rattle.desk_io.proofs.Each.{each_append, each_weaker}

pub each_of_all : {A : Type 0} (P : A → Type 0) (xs : List A) → All P xs → AllByRecursion P xs
each_of_all P [] all = tt
each_of_all P (x ∷ xs) all = (All-head P x xs all, each_of_all P xs (All-tail P x xs all))

-- the rule fails where the finding says it, and its leg has that number or a later one
pub record Says (places : Rule → ℕ → Leg → List ℕ) (first : ℕ) (legs : List Leg) (f : Finding) : Type 0 where
  pub least : first ≤ f.leg
  pub fails : FailsAt places f.rule f.leg (leg_numbered f.leg first legs) f.place

says_later : (places : Rule → ℕ → Leg → List ℕ) (first : ℕ) (leg : Leg) (legs : List Leg) (f : Finding) → Says places (first + 1) legs f → Says places first (leg ∷ legs) f
says_later places first leg legs f is = record {
  least = let l = is.least in omega (arith, l);
  fails = let ne : f.leg ≡ first → ⊥ = λ e. absurd (let l = is.least in omega (arith, e, l)) in rw (ne_eqb f.leg first ne) is.fails;
}

says_here : (places : Rule → ℕ → Leg → List ℕ) (rule : Rule) (n : ℕ) (leg : Leg) (legs : List Leg) (some : List ℕ) → AllByRecursion (Contains (places rule n leg)) some
    → AllByRecursion (Says places n (leg ∷ legs)) (map (finding rule n) some)
says_here places rule n leg legs [] all = tt
says_here places rule n leg legs (place ∷ some) all =
    (record { least = omega arith; fails = rw (eq-eqb n n refl) all.0 }, says_here places rule n leg legs some all.1)

true_rule : (places : Rule → ℕ → Leg → List ℕ) (rule : Rule) (n : ℕ) (legs : List Leg) → AllByRecursion (Says places n legs) (findings_from places rule n legs)
true_rule places rule n [] = tt
true_rule places rule n (leg ∷ legs) =
    each_append (Says places n (leg ∷ legs)) (map (finding rule n) (places rule n leg)) (findings_from places rule (n + 1) legs)
    (says_here places rule n leg legs (places rule n leg)
    (each_of_all (Contains (places rule n leg)) (places rule n leg) (All-contains_itself (places rule n leg))))
    (each_weaker (Says places (n + 1) legs) (Says places n (leg ∷ legs)) (λ f is. says_later places n leg legs f is) (findings_from places rule (n + 1) legs) (true_rule places rule (n + 1) legs))

-- each finding of rules is true
pub true_rules : (places : Rule → ℕ → Leg → List ℕ) (rules : List Rule) (legs : List Leg) → AllByRecursion (Says places 1 legs) (findings_by places rules legs)
true_rules places [] legs = tt
true_rules places (rule ∷ rules) legs =
    each_append (Says places 1 legs) (findings_from places rule 1 legs) (findings_by places rules legs) (true_rule places rule 1 legs) (true_rules places rules legs)

contains_map : {A B : Type 0} (f : A → B) (xs : List A) (x : A) (k : ℕ) → k < length xs → get_or xs k x ≡ x → Contains (map f xs) (f x)
contains_map f [] x k within is = absurd (omega (arith, within))
contains_map f (y ∷ xs) x zero within is = (0, omega arith, ap f is)
contains_map f (y ∷ xs) x (suc k) within is = Contains-append_right (f y ∷ []) (map f xs) (f x) (contains_map f xs x k (omega (arith, within)) is)

-- the finding of the first leg, or of a later one
named_by : (b : Bool) (places : Rule → ℕ → Leg → List ℕ) (rule : Rule) (number first : ℕ) (leg : Leg) (legs : List Leg) (place : ℕ) (later : Option Leg) → (number == first) ≡ b
    → (FailsAt places rule number later place → Contains (findings_from places rule (first + 1) legs) (finding rule number place))
    → FailsAt places rule number (if b then Some leg else later) place
    → Contains (map (finding rule first) (places rule first leg) ++ findings_from places rule (first + 1) legs) (finding rule number place)
named_by true places rule number first leg legs place later e h fails =
    subst (λ (n : ℕ). Contains (map (finding rule n) (places rule n leg) ++ findings_from places rule (n + 1) legs) (finding rule number place)) (eqb-true number first e)
    (Contains-append_left (map (finding rule number) (places rule number leg)) (findings_from places rule (number + 1) legs) (finding rule number place)
    (contains_map (finding rule number) (places rule number leg) place fails.0 fails.1 fails.2))
named_by false places rule number first leg legs place later e h fails =
    Contains-append_right (map (finding rule first) (places rule first leg)) (findings_from places rule (first + 1) legs) (finding rule number place) (h fails)

named_rule : (places : Rule → ℕ → Leg → List ℕ) (rule : Rule) (number first : ℕ) (legs : List Leg) (place : ℕ) → FailsAt places rule number (leg_numbered number first legs) place
    → Contains (findings_from places rule first legs) (finding rule number place)
named_rule places rule number first [] place fails = absurd fails
named_rule places rule number first (leg ∷ legs) place fails =
    named_by (number == first) places rule number first leg legs place (leg_numbered number (first + 1) legs) refl (named_rule places rule number (first + 1) legs place) fails

named_among : (places : Rule → ℕ → Leg → List ℕ) (rules : List Rule) (i : ℕ) (rule : Rule) (legs : List Leg) (f : Finding) → i < length rules → get_or rules i No19 ≡ rule
    → Contains (findings_from places rule 1 legs) f → Contains (findings_by places rules legs) f
named_among places [] i rule legs f within is there = absurd (omega (arith, within))
named_among places (r ∷ rules) zero rule legs f within is there =
    Contains-append_left (findings_from places r 1 legs) (findings_by places rules legs) f (subst (λ (q : Rule). Contains (findings_from places q 1 legs) f) (sym is) there)
named_among places (r ∷ rules) (suc i) rule legs f within is there =
    Contains-append_right (findings_from places r 1 legs) (findings_by places rules legs) f (named_among places rules i rule legs f (omega (arith, within)) is there)

-- where a rule of legs stands among them
record IsListed (rule : Rule) : Type 0 where
  pub index : ℕ
  pub within : index < 18
  pub is : get_or rules_of_legs index No19 ≡ rule

listed : (rule : Rule) → (rule ≡ No19) ⊎ IsListed rule
listed No1 = inr (record { index = 0; within = lit< tt; is = refl })
listed No2 = inr (record { index = 1; within = lit< tt; is = refl })
listed No3 = inr (record { index = 2; within = lit< tt; is = refl })
listed No4 = inr (record { index = 3; within = lit< tt; is = refl })
listed No5 = inr (record { index = 4; within = lit< tt; is = refl })
listed No6 = inr (record { index = 5; within = lit< tt; is = refl })
listed No7 = inr (record { index = 6; within = lit< tt; is = refl })
listed No8 = inr (record { index = 7; within = lit< tt; is = refl })
listed No9 = inr (record { index = 8; within = lit< tt; is = refl })
listed No10 = inr (record { index = 9; within = lit< tt; is = refl })
listed No11 = inr (record { index = 10; within = lit< tt; is = refl })
listed No12 = inr (record { index = 11; within = lit< tt; is = refl })
listed No13 = inr (record { index = 12; within = lit< tt; is = refl })
listed No14 = inr (record { index = 13; within = lit< tt; is = refl })
listed No15 = inr (record { index = 14; within = lit< tt; is = refl })
listed No16 = inr (record { index = 15; within = lit< tt; is = refl })
listed No17 = inr (record { index = 16; within = lit< tt; is = refl })
listed No18 = inr (record { index = 17; within = lit< tt; is = refl })
listed No19 = inl refl

contains_none : (x : ℕ) → Contains [] x → ⊥
contains_none x there = omega (arith, there.1)

-- a rule with no places fails at no leg
never_fails : (places : Rule → ℕ → Leg → List ℕ) (number : ℕ) (leg : Option Leg) (place : ℕ) → ((n : ℕ) (of : Leg) → places No19 n of ≡ []) → FailsAt places No19 number leg place → ⊥
never_fails places number None place never fails = fails
never_fails places number (Some leg) place never fails = contains_none place (subst (λ ps. Contains ps place) (never number leg) fails)

-- each failing of a rule of legs is named
pub named : (places : Rule → ℕ → Leg → List ℕ) (rule : Rule) (legs : List Leg) (leg place : ℕ) → ((number : ℕ) (of : Leg) → places No19 number of ≡ []) → FailsAt places rule leg (leg_numbered leg 1 legs) place
    → Contains (findings_by places rules_of_legs legs) (finding rule leg place)
named places rule legs leg place never fails =
    elim (listed rule) [
      | inl is ↦ absurd (never_fails places leg (leg_numbered leg 1 legs) place never (subst (λ (r : Rule). FailsAt places r leg (leg_numbered leg 1 legs) place) is fails))
      | inr one ↦ named_among places rules_of_legs one.index rule legs (finding rule leg place) one.within one.is (named_rule places rule leg 1 legs place fails)
    ]

-- The rules, their codes, and findings in order.
use Rattle.std.specs.Prelude.{◌≡◌, ℕ, Bool, true, ◌&&◌, ◌||◌, ◌==◌, nat_lt, List, [], ◌∷◌, ◌++◌, find, Option, codes}
use Rattle.std.specs.List.{AllByRecursion, list_any}
use Rattle.plan.specs.declared.findings.Rule.{Rule}
use Rattle.plan.specs.declared.findings.Rule.TheVariants.{No1, No2, No3, No4, No5, No6, No7, No8, No9, No10, No11, No12, No13, No14, No15, No16, No17, No18, No19}
use Rattle.plan.specs.declared.findings.Finding.{Finding}

abbrev pub number_of : Rule → ℕ
number_of No1 = 1
number_of No2 = 2
number_of No3 = 3
number_of No4 = 4
number_of No5 = 5
number_of No6 = 6
number_of No7 = 7
number_of No8 = 8
number_of No9 = 9
number_of No10 = 10
number_of No11 = 11
number_of No12 = 12
number_of No13 = 13
number_of No14 = 14
number_of No15 = 15
number_of No16 = 16
number_of No17 = 17
number_of No18 = 18
number_of No19 = 19

-- the rules that are judged leg by leg
abbrev pub rules_of_legs : List Rule
rules_of_legs = No1 ∷ No2 ∷ No3 ∷ No4 ∷ No5 ∷ No6 ∷ No7 ∷ No8 ∷ No9 ∷ No10 ∷ No11 ∷ No12 ∷ No13 ∷ No14 ∷ No15 ∷ No16 ∷ No17 ∷ No18 ∷ []

-- every rule: those of the legs, and that of the tables
abbrev pub every_rule : List Rule
every_rule = rules_of_legs ++ No19 ∷ []

-- the rule of this number
abbrev pub rule_of : ℕ → Option Rule
rule_of number = find (λ r. number_of r == number) every_rule

-- the rule's section of 14 CFR, or the desk's own name
abbrev pub code_of : Rule → List ℕ
code_of No1 = codes "121.593"
code_of No2 = codes "121.595"
code_of No3 = codes "121.613"
code_of No4 = codes "121.617-ALT"
code_of No5 = codes "121.617-RANGE"
code_of No6 = codes "121.617-WX"
code_of No7 = codes "121.619-NONE"
code_of No8 = codes "121.619-SECOND"
code_of No9 = codes "121.621-NONE"
code_of No10 = codes "121.625"
code_of No11 = codes "121.628-LIMIT"
code_of No12 = codes "121.628-DUE"
code_of No13 = codes "121.631-TYPE"
code_of No14 = codes "121.639"
code_of No15 = codes "121.645"
code_of No16 = codes "DESK-BOARD"
code_of No17 = codes "DESK-LATE-OFF"
code_of No18 = codes "DESK-LATE-ON"
code_of No19 = codes "DESK-TABLES"

abbrev pub is_same : Finding → Finding → Bool
is_same a b = (number_of a.rule == number_of b.rule) && (a.leg == b.leg) && (a.place == b.place)

-- `a` comes before `b` in the order of rule, leg and place
abbrev pub is_before : Finding → Finding → Bool
is_before a b =
    nat_lt (number_of a.rule) (number_of b.rule)
    || ((number_of a.rule == number_of b.rule) && (nat_lt a.leg b.leg || ((a.leg == b.leg) && nat_lt a.place b.place)))

-- Findings in order. Each comes before all later ones, so there are no duplicates.
abbrev pub AreInOrder : List Finding → Type 0
AreInOrder [] = Unit {0}
AreInOrder (f ∷ fs) = AllByRecursion (λ g. is_before f g ≡ true) fs × AreInOrder fs

abbrev pub is_among : List Finding → Finding → Bool
is_among findings f = list_any (λ g. is_same f g) findings

-- each of the findings is among the others
abbrev pub AreAmong : List Finding → List Finding → Type 0
AreAmong others findings = AllByRecursion (λ f. is_among others f ≡ true) findings

-- Numbers of rules, and the order of findings.
use Rattle.std.proofs.Common.{◌≡◌, ℕ, map, get_or, Bool, true, false, ◌&&◌, ◌||◌, Option, None, Some, refl, ap, sym, ◌∙◌, arith, nat_lt, ◌==◌}
use Rattle.std.proofs.lemmas.Bool.{eqb-true, and_parts}
use Rattle.std.proofs.lemmas.Bool.Decides.{nat_tests}
use Rattle.plan.specs.declared.findings.Finding.{Finding}
use Rattle.plan.specs.declared.findings.Rule.{Rule}
use Rattle.plan.specs.declared.findings.Rule.TheVariants.{No1, No2, No3, No4, No5, No6, No7, No8, No9, No10, No11, No12, No13, No14, No15, No16, No17, No18, No19}
use Rattle.plan.specs.Findings.{every_rule, number_of, rule_of, is_same, is_before}

-- what holds of the list of all rules holds of each
pub each_rule : {A : Type 0} (f g : Rule → A) → map f every_rule ≡ map g every_rule → (r : Rule) → f r ≡ g r
each_rule f g same No1 = ap (λ xs. get_or xs 0 (f No1)) same
each_rule f g same No2 = ap (λ xs. get_or xs 1 (f No2)) same
each_rule f g same No3 = ap (λ xs. get_or xs 2 (f No3)) same
each_rule f g same No4 = ap (λ xs. get_or xs 3 (f No4)) same
each_rule f g same No5 = ap (λ xs. get_or xs 4 (f No5)) same
each_rule f g same No6 = ap (λ xs. get_or xs 5 (f No6)) same
each_rule f g same No7 = ap (λ xs. get_or xs 6 (f No7)) same
each_rule f g same No8 = ap (λ xs. get_or xs 7 (f No8)) same
each_rule f g same No9 = ap (λ xs. get_or xs 8 (f No9)) same
each_rule f g same No10 = ap (λ xs. get_or xs 9 (f No10)) same
each_rule f g same No11 = ap (λ xs. get_or xs 10 (f No11)) same
each_rule f g same No12 = ap (λ xs. get_or xs 11 (f No12)) same
each_rule f g same No13 = ap (λ xs. get_or xs 12 (f No13)) same
each_rule f g same No14 = ap (λ xs. get_or xs 13 (f No14)) same
each_rule f g same No15 = ap (λ xs. get_or xs 14 (f No15)) same
each_rule f g same No16 = ap (λ xs. get_or xs 15 (f No16)) same
each_rule f g same No17 = ap (λ xs. get_or xs 16 (f No17)) same
each_rule f g same No18 = ap (λ xs. get_or xs 17 (f No18)) same
each_rule f g same No19 = ap (λ xs. get_or xs 18 (f No19)) same

pub rule_numbered : (r : Rule) → rule_of (number_of r) ≡ Some r
rule_numbered = each_rule (λ r. rule_of (number_of r)) Some refl

abbrev rule_in : Rule → Option Rule → Rule
rule_in other None = other
rule_in other (Some r) = r

-- rules of the same number are equal
pub number_is : (r s : Rule) → number_of r ≡ number_of s → r ≡ s
number_is r s same = ap (λ o. rule_in r o) (sym (rule_numbered r) ∙ ap rule_of same ∙ rule_numbered s)

-- three numbers are before three others
abbrev before : ℕ → ℕ → ℕ → ℕ → ℕ → ℕ → Bool
before a b c x y z = nat_lt a x || ((a == x) && (nat_lt b y || ((b == y) && nat_lt c z)))

before_trans : (a b c x y z l m n : ℕ) → before a b c x y z ≡ true → before x y z l m n ≡ true → before a b c l m n ≡ true
before_trans a b c x y z l m n one two = grind (arith, nat_tests, one, two)

before_other : (a b c x y z : ℕ) → before a b c x y z ≡ false → ((a == x) && (b == y) && (c == z)) ≡ false → before x y z a b c ≡ true
before_other a b c x y z one two = grind (arith, nat_tests, one, two)

pub is_before_trans : (f g h : Finding) → is_before f g ≡ true → is_before g h ≡ true → is_before f h ≡ true
is_before_trans f g h one two = before_trans (number_of f.rule) f.leg f.place (number_of g.rule) g.leg g.place (number_of h.rule) h.leg h.place one two

-- of two findings that aren't the same one is before the other
pub is_before_other : (f g : Finding) → is_before f g ≡ false → is_same f g ≡ false → is_before g f ≡ true
is_before_other f g one two = before_other (number_of f.rule) f.leg f.place (number_of g.rule) g.leg g.place one two

abbrev the_finding : Rule → ℕ → ℕ → Finding
the_finding r l p = record { rule = r; leg = l; place = p }

-- findings that are the same are equal
pub same_finding : (f g : Finding) → is_same f g ≡ true → f ≡ g
same_finding f g e =
    let rest = and_parts ((number_of f.rule == number_of g.rule) && (f.leg == g.leg)) (f.place == g.place) e in
    let both = and_parts (number_of f.rule == number_of g.rule) (f.leg == g.leg) rest.0 in
    ap (λ r. the_finding r f.leg f.place) (number_is f.rule g.rule (eqb-true (number_of f.rule) (number_of g.rule) both.0))
    ∙ ap (λ l. the_finding g.rule l f.place) (eqb-true f.leg g.leg both.1)
    ∙ ap (λ p. the_finding g.rule g.leg p) (eqb-true f.place g.place rest.1)

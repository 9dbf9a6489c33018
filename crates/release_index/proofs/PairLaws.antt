-- Keys that are pairs of numbers.
use Rattle.std.proofs.Common.{◌≡◌, sym, ap, ◌∙◌, ℕ, ◌<◌, ◌≤◌, true, ◌&&◌, ◌==◌, nat_le, arith, Less, eqb-true, eq-eqb, refl}
use Rattle.std.specs.BTreeMap.{is_at}
use Rattle.std.proofs.lemmas.Bool.Decides.{nat_tests}
use Rattle.std.proofs.lemmas.Bool.{and_parts}
use Rattle.facts.specs.Index.{key_cmp}
use Rattle.desk_io.specs.Sorted.{within}

pair_at : (x y : ℕ × ℕ) → is_at (key_cmp x) y ≡ ((x.0 == y.0) && (x.1 == y.1))
pair_at x y = grind (arith, nat_tests)

-- keys that compare as equal are the same
pub tied : (x y : ℕ × ℕ) → is_at (key_cmp x) y ≡ true → x ≡ y
tied x y is =
    let both = and_parts (x.0 == y.0) (x.1 == y.1) (sym (pair_at x y) ∙ is) in
    let first : x.0 ≡ y.0 = eqb-true x.0 y.0 both.0 in
    let second : x.1 ≡ y.1 = eqb-true x.1 y.1 both.1 in
    λ i. (first i, second i)

pub at_itself : (x : ℕ × ℕ) → is_at (key_cmp x) x ≡ true
at_itself x = pair_at x x ∙ rw (eq-eqb x.0 x.0 refl, eq-eqb x.1 x.1 refl) refl

within_first : (n top : ℕ) (k : ℕ × ℕ) → within key_cmp (n, 0) (n, top) k ≡ ((k.0 == n) && nat_le k.1 top)
within_first n top k = grind (arith, nat_tests)

-- the run of a number has its keys
pub in_run : (n top id : ℕ) → id ≤ top → within key_cmp (n, 0) (n, top) (n, id) ≡ true
in_run n top id least = within_first n top (n, id) ∙ rw (eq-eqb n n refl) (grind (arith, nat_tests, least))

-- and no others
pub of_run : (n top : ℕ) (k : ℕ × ℕ) → within key_cmp (n, 0) (n, top) k ≡ true → k.0 ≡ n
of_run n top k is = eqb-true k.0 n (and_parts (k.0 == n) (nat_le k.1 top) (sym (within_first n top k) ∙ is)).0

second_below : (x y : ℕ × ℕ) → key_cmp x y ≡ Less → x.0 ≡ y.0 → x.1 < y.1
second_below x y low same = grind (arith, nat_tests, low, same)

-- no key is below itself
pub not_below_itself : (x y : ℕ × ℕ) → x ≡ y → key_cmp x y ≡ Less → ⊥
not_below_itself x y same low =
    let less = second_below x y low (ap (λ (p : ℕ × ℕ). p.0) same) in
    let alike : x.1 ≡ y.1 = ap (λ (p : ℕ × ℕ). p.1) same in
    absurd (omega (arith, less, alike))

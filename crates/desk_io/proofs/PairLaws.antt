-- Keys that are pairs of numbers: the run of all pairs of one first number.
use Rattle.std.proofs.Common.{◌≡◌, refl, sym, ap, ◌∙◌, ℕ, ◌<◌, ◌≤◌, Bool, true, false, cond, ◌&&◌, ◌==◌, nat_lt, nat_le, arith, Ordering, Less, Equal, Greater}
use Rattle.std.specs.Ordering.{nat_cmp, ordering_then, is_eq, is_ge, is_le, is_lt}
use Rattle.std.specs.Cmp.{IsTotalOrder}
use Rattle.std.specs.BTreeMap.{is_at}
use Rattle.std.proofs.lemmas.Cmp.{nat_cmp_total, on_total, then_total}
use Rattle.std.proofs.lemmas.Bool.Decides.{nat_tests}
use Rattle.desk_io.specs.Keys.{pair_cmp}
use Rattle.desk_io.specs.Sorted.{within}

pub pair_total : IsTotalOrder pair_cmp
pair_total = then_total (on_total (λ (p : ℕ × ℕ). p.0) nat_cmp_total) (on_total (λ (p : ℕ × ℕ). p.1) nat_cmp_total)

-- a pair is at another exactly where both numbers are the same
pub pair_at : (x y : ℕ × ℕ) → is_at (pair_cmp x) y ≡ (x.0 == y.0 && x.1 == y.1)
pair_at x y = grind (arith, nat_tests)

-- of the pairs from (n, 0) to (n, top) are those whose first number is n and whose second isn't above the top
pub within_first : (n top : ℕ) (k : ℕ × ℕ) → within pair_cmp (n, 0) (n, top) k ≡ (k.0 == n && nat_le k.1 top)
within_first n top k = grind (arith, nat_tests)

-- of two pairs of one first number the lower has the lower second
pub second_below : (x y : ℕ × ℕ) → pair_cmp x y ≡ Less → x.0 ≡ y.0 → x.1 < y.1
second_below x y low same = grind (arith, nat_tests, low, same)

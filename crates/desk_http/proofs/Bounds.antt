-- Bounds on the numbers of few digits.
use Rattle.std.proofs.Common.{◌≤◌, ℕ, ◌+◌, ◌*◌, ◌^◌, arith}
use Rattle.std.proofs.lemmas.Grind.{pow_more}

-- one more byte, of which 48 is taken
pub more : (i n d : ℕ) → n + 23 ≤ 23 * 10 ^ i → d ≤ 207 → 10 * n + d + 23 ≤ 23 * 10 ^ (i + 1)
more i n d few small = omega (arith, few, small, pow_more 10 i)

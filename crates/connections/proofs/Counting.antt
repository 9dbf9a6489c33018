-- Rounds of sixteen, until all connections have come.
use Rattle.std.proofs.Common.{◌≡◌, ◌⊎◌, inl, inr, ⊎_elim, ℕ, suc, ◌+◌, ◌-◌, ◌*◌, ◌<◌, nat_le, Bool, true, false, refl, arith, leb-true, leb-false}
use Rattle.std.specs.Prelude.{min}

-- so many whole rounds have come, or all connections
abbrev pub IsFull : ℕ → ℕ → Type 0
IsFull before connections = (round : ℕ) × ((before ≡ 16 * round) ⊎ (before ≡ connections))

pub full_before : (before connections : ℕ) (is : IsFull before connections) → before < connections → before ≡ 16 * is.0
full_before before connections (round, is) less = ⊎_elim (λ full. full) (λ all. absurd (omega (arith, all, less))) is

pub next_round : (before connections most : ℕ) → IsFull before connections → before < connections → most ≡ min (connections - before) 16 → IsFull (before + most) connections
next_round before connections most is less least = by (nat_le (before + 16) connections) refl
  where
    by : (b : Bool) → nat_le (before + 16) connections ≡ b → IsFull (before + most) connections
    by true e =
        let enough = leb-true (before + 16) connections e in
        let full = full_before before connections is less in
        (suc is.0, inl (omega (arith, enough, full, least)))
    by false e =
        let few = leb-false (before + 16) connections e in
        (is.0, inr (omega (arith, few, less, least)))

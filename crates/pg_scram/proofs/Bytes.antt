-- The rounds of PBKDF2, one by one.
use Rattle.std.proofs.Common.{◌≡◌, ℕ, zero, suc, ◌-◌, ◌<◌, List, arith, refl}
use Rattle.pg_scram.specs.Keyed.{xors, hmac, stretch}

stretch_more : (password last all : List ℕ) (n : ℕ) → 0 < n
    → stretch password (n - 1) (hmac password last) (xors all (hmac password last)) ≡ stretch password n last all
unfolding stretch
stretch_more password last all zero some = absurd (omega (arith, some))
stretch_more password last all (suc n) some = let e : suc n - 1 ≡ n = omega arith in rw e refl

pub stretch_step : (password last all next sum : List ℕ) (n : ℕ) → 0 < n → next ≡ hmac password last → sum ≡ xors all next
    → stretch password (n - 1) next sum ≡ stretch password n last all
stretch_step password last all next sum n some is adds = rw (adds, is) (stretch_more password last all n some)

pub stretch_end : (password last all : List ℕ) (n : ℕ) → n ≡ 0 → stretch password n last all ≡ all
unfolding stretch
stretch_end password last all n none = rw none refl

-- What a search answers over one row.
use Rattle.std.proofs.Common.{◌≡◌, ℕ, zero, suc, ◌-◌, ◌==◌, List, [], ◌∷◌, Option, Some, None, cond, Bool, true, false, refl, length, arith}
use Rattle.matchit.specs.Rows.{RowsOf}
use Rattle.matchit.specs.Seek.{seek, own, or_else, param_step, has_slash}

pub param_nil : {K : Type 0} (p : List ℕ) → (param_step {K = K} [] p).1 ≡ []
unfolding param_step
param_nil {K} p = pick (has_slash p)
  where
    pick : (b : Bool) → (let r : ℕ × RowsOf K = cond b (0, []) (length p, []) in r.1) ≡ []
    pick true = refl
    pick false = refl

pub seek_nil : {K : Type 0} (n : ℕ) (path : List ℕ) → seek {K = K} n [] path ≡ None
unfolding seek
seek_nil n [] = refl
seek_nil (suc n) (b ∷ path) = seek_nil n path
seek_nil {K} zero (b ∷ path) = rw (seek_nil {K = K} 0 path, param_nil {K = K} (b ∷ path), seek_nil {K = K} ((param_step {K = K} [] (b ∷ path)).0 - 1) path) refl

-- one row whose pattern begins with a byte
pub literal : {K : Type 0} (b : ℕ) (t : List ℕ) (key : K) (c : ℕ) (path : List ℕ) → (b == 256) ≡ false → (b == 257) ≡ false
    → seek 0 ((b ∷ t, key) ∷ []) (c ∷ path) ≡ seek 0 (cond (b == c) ((t, key) ∷ []) []) path
unfolding seek
literal {K} b t key c path e f =
    rw (e, f, param_nil {K = K} (c ∷ path), seek_nil {K = K} ((param_step {K = K} [] (c ∷ path)).0 - 1) path) (last (seek 0 (cond (b == c) ((t, key) ∷ []) []) path))
  where
    last : (o : Option K) → or_else o None ≡ o
    last None = refl
    last (Some k) = refl

skip_all : {K : Type 0} (rs : RowsOf K) (path : List ℕ) → seek (length path) rs path ≡ own rs
unfolding seek
skip_all rs [] = refl
skip_all rs (b ∷ path) = skip_all rs path

-- one row that ends in a parameter takes what has no slash
pub param_end : {K : Type 0} (key : K) (c : ℕ) (path : List ℕ) → (256 == c) ≡ false → has_slash (c ∷ path) ≡ false
    → seek 0 ((256 ∷ [], key) ∷ []) (c ∷ path) ≡ Some key
unfolding seek param_step
param_end {K} key c path e slash =
    let less : suc (length path) - 1 ≡ length path = omega arith in
    rw (e, seek_nil {K = K} 0 path, slash) (rw (less, skip_all {K = K} (([], key) ∷ []) path) refl)

-- and nothing that has one
pub param_slash : {K : Type 0} (key : K) (c : ℕ) (path : List ℕ) → (256 == c) ≡ false → has_slash (c ∷ path) ≡ true
    → seek 0 ((256 ∷ [], key) ∷ []) (c ∷ path) ≡ None
unfolding seek param_step
param_slash {K} key c path e slash = rw (e, seek_nil {K = K} 0 path, slash) (rw (seek_nil {K = K} 0 path) refl)

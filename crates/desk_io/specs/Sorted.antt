-- Sorted maps: entries in increasing order of their keys.
use Rattle.std.specs.Prelude.{◌≡◌, Bool, ◌&&◌, ℕ, suc, zero, ◌-◌, ◌<◌, ◌≤◌, nat_lt, if◌then◌else◌, List, [], ◌∷◌, length, Option, None, Some, Vec, vec_len}
use Rattle.std.specs.declared.cmp.Ordering.{Ordering}
use Rattle.std.specs.declared.cmp.Ordering.TheVariants.{Less, Equal, Greater}
use Rattle.std.specs.declared.alloc.Global.{Global}
use Rattle.std.specs.Ordering.{is_ge, is_le}
use Rattle.std.specs.Vec.{vec_capacity}

-- the model of a `Sorted`
pub record Entries (K V : Type 0) : Type 0 where
  -- the entries, in order of their keys
  pub entries : List (K × V)
  -- how many more keys fit without allocation
  pub room : ℕ

-- the model of a vector whose keys rise
abbrev pub entries_in : {K V : Type 0} → Vec (K × V) Global → Entries K V
entries_in held = record { entries = held.items; room = vec_capacity held - vec_len held }

-- the key is between `low` and `high`, or equal to one of them
abbrev pub within : {K : Type 0} → (K → K → Ordering) → K → K → K → Bool
within cmp low high k = is_ge (cmp k low) && is_le (cmp k high)

-- the number, if it is below the limit
abbrev pub if_below : ℕ → Option ℕ → Option ℕ
if_below limit None = None
if_below limit (Some n) = if nat_lt n limit then Some n else None

module _ {K V : Type 0} (cmp : K → K → Ordering) (k : K) where
  -- the list has at least i keys, and the key is above each of the first i
  abbrev pub IsAbove : List (K × V) → ℕ → Type 0
  IsAbove es zero = Unit {0}
  IsAbove [] (suc i) = ⊥
  IsAbove (e ∷ es) (suc i) = (cmp k e.0 ≡ Greater) × IsAbove es i

  -- comparing the key with the one at index i gives `r`, if the list has such an index
  abbrev pub ComparesAt : List (K × V) → ℕ → Ordering → Type 0
  ComparesAt [] i r = Unit {0}
  ComparesAt (e ∷ es) zero r = cmp k e.0 ≡ r
  ComparesAt (e ∷ es) (suc i) r = ComparesAt es i r

  -- the key is at index i
  pub record IsFoundAt (es : List (K × V)) (i : ℕ) : Type 0 where
    pub within : i < length es
    pub above : IsAbove es i
    pub here : ComparesAt es i Equal

  -- the key is absent, and would be inserted at index i
  pub record IsGapAt (es : List (K × V)) (i : ℕ) : Type 0 where
    pub within : i ≤ length es
    pub above : IsAbove es i
    pub here : ComparesAt es i Less

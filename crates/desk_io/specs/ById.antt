-- Values in increasing order of their ids: lookup, insertion, replacement and removal.
use Rattle.std.specs.Prelude.{◌≡◌, ℕ, suc, zero, ◌-◌, ◌<◌, ◌≤◌, ◌==◌, nat_lt, Bool, if◌then◌else◌, List, [], ◌∷◌, length, AllPairs, Vec, vec_len}
use Rattle.std.specs.declared.alloc.Global.{Global}
use Rattle.std.specs.Vec.{vec_capacity}

-- the model of a `ById`
pub record Ordered (T : Type 0) : Type 0 where
  -- the values, in order of their ids
  pub list : List T
  -- how many more values fit without allocation
  pub room : ℕ

-- the model of a vector whose ids rise
abbrev pub ordered_in : {T : Type 0} → Vec T Global → Ordered T
ordered_in held = record { list = held.items; room = vec_capacity held - vec_len held }

module _ {T : Type 0} (id_of : T → ℕ) where
  -- the ids strictly increase
  abbrev pub AreRising : List T → Type 0
  AreRising list = AllPairs (λ earlier later. id_of earlier < id_of later) list

  abbrev pub has_id : ℕ → T → Bool
  has_id id x = id_of x == id

  -- the list with `x` in place of the first value of the same id, if there is one
  abbrev pub replaced : T → List T → List T
  replaced x [] = []
  replaced x (y ∷ ys) = if id_of y == id_of x then x ∷ ys else y ∷ replaced x ys

  -- the list with `x` in place of the value of the same id, or else inserted before the first value of a greater id
  abbrev pub put : T → List T → List T
  put x [] = x ∷ []
  put x (y ∷ ys) = if id_of y == id_of x then x ∷ ys else (if nat_lt (id_of x) (id_of y) then x ∷ y ∷ ys else y ∷ put x ys)

  -- the list without the first value of that id
  abbrev pub without : ℕ → List T → List T
  without id [] = []
  without id (y ∷ ys) = if id_of y == id then ys else y ∷ without id ys

  module _ (id : ℕ) where
    -- the value at index i has the id, and all values before it have lower ids
    abbrev pub StandsAt : List T → ℕ → Type 0
    StandsAt [] i = ⊥
    StandsAt (x ∷ xs) zero = id_of x ≡ id
    StandsAt (x ∷ xs) (suc i) = (id_of x < id) × StandsAt xs i

    -- the values before index i have lower ids, and the value at index i, if any, has a greater one
    abbrev pub GoesAt : List T → ℕ → Type 0
    GoesAt [] zero = Unit {0}
    GoesAt [] (suc i) = ⊥
    GoesAt (x ∷ xs) zero = id < id_of x
    GoesAt (x ∷ xs) (suc i) = (id_of x < id) × GoesAt xs i

    -- the id is at index i
    pub record IsFoundAt (list : List T) (i : ℕ) : Type 0 where
      pub within : i < length list
      pub stands : StandsAt list i

    -- the id is absent, and would be inserted at index i
    pub record IsGapAt (list : List T) (i : ℕ) : Type 0 where
      pub within : i ≤ length list
      pub goes : GoesAt list i

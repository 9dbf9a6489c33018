-- The index of kept replies: their keys, in one set for each fingerprint of a name.
use Rattle.std.specs.Prelude.{◌≡◌, ℕ, zero, suc, ◌<◌, ◌≤◌, ◌||◌, Bool, IsTrue, List, [], ◌∷◌, length, filter, Option, None, Some, IfSome, IsSome}
use Rattle.std.specs.List.{AllByRecursion}
use Rattle.std.specs.Ordering.{nat_cmp}
use Rattle.std.specs.Map.{lookup}
use Rattle.std.specs.BTreeMap.{is_at}
use Rattle.desk_io.specs.Keys.{KeySet, is_held}
use Rattle.kept_replies.specs.Index.{Key, key_cmp}

pub record PersonKeys : Type 0 where
  -- the index of the set of each fingerprint
  pub places : List (ℕ × ℕ)
  pub sets : List (KeySet Key)
  -- whether room for one more key is reserved
  pub room : Bool

-- the keys of the set at index i
abbrev pub at_place : List (KeySet Key) → ℕ → List Key
at_place [] i = []
at_place (s ∷ ss) zero = s.keys
at_place (s ∷ ss) (suc i) = at_place ss i

abbrev pub in_set : List (KeySet Key) → Option ℕ → List Key
in_set sets None = []
in_set sets (Some i) = at_place sets i

-- the index of the set of a fingerprint
abbrev pub place_of : List (ℕ × ℕ) → ℕ → Option ℕ
place_of places mark = lookup (is_at (nat_cmp mark)) places

-- the keys under a fingerprint
abbrev pub under : List (ℕ × ℕ) → List (KeySet Key) → ℕ → List Key
under places sets mark = in_set sets (place_of places mark)

abbrev pub keys_under : PersonKeys → ℕ → List Key
keys_under r mark = under r.places r.sets mark

-- ---- room

-- the set has room for one more key
abbrev pub HasOne : KeySet Key → Type 0
HasOne s = 1 ≤ s.room

-- all sets have room, except possibly the one at index i
abbrev pub HaveOneBut : ℕ → List (KeySet Key) → Type 0
HaveOneBut i [] = Unit {0}
HaveOneBut zero (s ∷ ss) = AllByRecursion HasOne ss
HaveOneBut (suc i) (s ∷ ss) = HasOne s × HaveOneBut i ss

-- all sets have room, except possibly the one at this index, if any
abbrev pub HaveOne : Option ℕ → List (KeySet Key) → Type 0
HaveOne None sets = AllByRecursion HasOne sets
HaveOne (Some i) sets = HaveOneBut i sets

-- a set with room and without keys
pub record IsSpare (s : KeySet Key) : Type 0 where
  pub empty : s.keys ≡ []
  pub room : HasOne s

-- ---- changes of sets

-- the set at index i changed by R, and the others are unchanged
abbrev pub IsChangedAt : (KeySet Key → KeySet Key → Type 0) → ℕ → List (KeySet Key) → List (KeySet Key) → Type 0
IsChangedAt R i [] new = ⊥
IsChangedAt R i (s ∷ ss) [] = ⊥
IsChangedAt R zero (s ∷ ss) (t ∷ ts) = R s t × (ss ≡ ts)
IsChangedAt R (suc i) (s ∷ ss) (t ∷ ts) = (s ≡ t) × IsChangedAt R i ss ts

-- the set has one more key
pub record IsPut (key : Key) (s t : KeySet Key) : Type 0 where
  pub each : (q : Key) → is_held key_cmp q t.keys ≡ (is_at (key_cmp q) key || is_held key_cmp q s.keys)

-- the set has the same keys
abbrev pub HasSameKeys : KeySet Key → KeySet Key → Type 0
HasSameKeys s t = t.keys ≡ s.keys

-- the set has only the keys that pass the test, and no less room
pub record IsKept (p : Key → Bool) (s t : KeySet Key) : Type 0 where
  pub keys : t.keys ≡ filter p s.keys
  pub room : s.room ≤ t.room

-- each set has only its keys that pass the test, and no less room
abbrev pub AreKept : (Key → Bool) → List (KeySet Key) → List (KeySet Key) → Type 0
AreKept p [] [] = Unit {0}
AreKept p [] (t ∷ ts) = ⊥
AreKept p (s ∷ ss) [] = ⊥
AreKept p (s ∷ ss) (t ∷ ts) = IsKept p s t × AreKept p ss ts

-- ---- the invariant

-- there is room for a key under any fingerprint
pub record IsReady (places_room : ℕ) (count capacity : ℕ) (spare : Option (KeySet Key)) (last : Option ℕ) : Type 0 where
  pub has_place : 1 ≤ places_room
  pub has_end : count < capacity
  pub has_spare : IsSome spare
  pub none_full : last ≡ None

-- The invariant. Every index is that of a set. All sets have room except the one that got the last key. If `room` is
-- true, there is room for any key.
pub record AreByPerson
    (places : List (ℕ × ℕ))
    (places_room : ℕ)
    (sets : List (KeySet Key))
    (count capacity : ℕ)
    (spare : Option (KeySet Key))
    (last : Option ℕ)
    (room : Bool)
    : Type 0
  where
    pub within : (mark : ℕ) → IfSome (place_of places mark) (λ i. i < length sets)
    pub last_within : IfSome last (λ i. i < length sets)
    pub have : HaveOne last sets
    pub empty : IfSome spare IsSpare
    pub ready : IsTrue room → IsReady places_room count capacity spare last

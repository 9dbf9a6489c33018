-- Landing minima raised for a captain with few hours in the type, as 14 CFR 121.652 states them.
use Rattle.std.specs.Prelude.{◌≡◌, ◌+◌, ◌≤◌, min, max, List, [], All, Any, Contains}
use Rattle.desk_io.specs.declared.pair.Pair.{Pair}

-- 100 feet and half a mile higher, but at least 300 feet and one mile: the increase without alternate minima
pub record IsRaisedFreely (landing pair : Pair) : Type 0 where
  pub ceiling : pair.ceiling ≡ max 300 (landing.ceiling + 100)
  pub visibility : pair.vis ≡ max 1_609_344 (landing.vis + 804_672)

-- the same increase, but not above the alternate minima and not below the landing minima
pub record IsRaisedTo (landing alternate pair : Pair) : Type 0 where
  pub ceiling : pair.ceiling ≡ max 300 (max landing.ceiling (min (landing.ceiling + 100) alternate.ceiling))
  pub visibility : pair.vis ≡ max 1_609_344 (max landing.vis (min (landing.vis + 804_672) alternate.vis))

-- one of the landing minima, raised, and limited by one of the alternate minima if there are any
pub data IsRaised (landing alternate : List Pair) (pair : Pair) : Type 0 where
  Freely : (l : Pair) → Contains landing l → alternate ≡ [] → IsRaisedFreely l pair → IsRaised landing alternate pair
  To : (l a : Pair) → Contains landing l → Contains alternate a → IsRaisedTo l a pair → IsRaised landing alternate pair

-- weather that is at this pair meets one of the landing minima
abbrev pub IsAtOrOver : List Pair → Pair → Type 0
IsAtOrOver landing pair = Any (λ l. (l.ceiling ≤ pair.ceiling) × (l.vis ≤ pair.vis)) landing

-- The raised minima are all those that the landing minima give, and no others. None is lower than the landing minima.
pub record AreRaised (landing alternate pairs : List Pair) : Type 0 where
  pub only : All (IsRaised landing alternate) pairs
  pub freely : alternate ≡ [] → All (λ l. (pair : Pair) → IsRaisedFreely l pair → Contains pairs pair) landing
  pub to_each : All (λ l. All (λ a. (pair : Pair) → IsRaisedTo l a pair → Contains pairs pair) alternate) landing
  pub none_is_lower : All (IsAtOrOver landing) pairs

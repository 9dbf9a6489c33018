-- Lists whose elements carry numbers.
use Rattle.std.specs.Prelude.{◌≡◌, ◌⊎◌, ◌==◌, ◌<◌, ℕ, List, [], ◌∷◌, ◌++◌, cond, filter, length, nat_lt}

-- the list contains the number
abbrev pub IsAmong : ℕ → List ℕ → Type 0
IsAmong n [] = ⊥
IsAmong n (k ∷ ks) = (n ≡ k) ⊎ IsAmong n ks

module _ {E : Type 0} where
  -- the elements that carry the number, in order
  abbrev pub elements_of : (E → ℕ) → ℕ → List E → List E
  elements_of bears n xs = filter (λ e. bears e == n) xs

  -- every element carries the number
  abbrev pub EachBears : (E → ℕ) → ℕ → List E → Type 0
  EachBears bears n [] = Unit {0}
  EachBears bears n (x ∷ xs) = (bears x ≡ n) × EachBears bears n xs

  -- the new list is the old one, followed by elements that carry the number
  abbrev pub Continues : (E → ℕ) → ℕ → List E → List E → Type 0
  Continues bears n old new = (more : List E) × (new ≡ old ++ more) × EachBears bears n more

  -- for each of these numbers, both lists have the same elements
  abbrev pub AddsNoneOf : (E → ℕ) → List ℕ → List E → List E → Type 0
  AddsNoneOf bears numbers old new = (n : ℕ) → IsAmong n numbers → elements_of bears n new ≡ elements_of bears n old

  -- no element carries a number above that one
  abbrev pub HasNoneAbove : (E → ℕ) → ℕ → List E → Type 0
  HasNoneAbove bears most xs = (n : ℕ) → most < n → elements_of bears n xs ≡ []

  -- the longer of two lists; the first if they are equally long
  abbrev pub longer_of : List E → List E → List E
  longer_of xs ys = cond (nat_lt (length xs) (length ys)) ys xs

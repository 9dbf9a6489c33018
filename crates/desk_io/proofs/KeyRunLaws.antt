-- The entries from one key to another are found by halves.
use Rattle.std.proofs.Common.{◌≡◌, refl, ap, ℕ, zero, suc, ◌≤◌, Bool, true, false, cond, ◌&&◌, List, [], ◌∷◌, length, filter, get_or, take, drop, arith, Ordering, Less, Equal, Greater}
use Rattle.std.specs.Ordering.{ordering_index, is_lt, is_le, is_ge}
use Rattle.std.specs.Cmp.{IsTotalOrder}
use Rattle.std.specs.List.{AllWithin}
use Rattle.std.specs.List.Sorted.{IsStrictlySortedBy, IsPartitionedBy}
use Rattle.std.specs.Map.{keys_of}
use Rattle.desk_io.specs.Sorted.{within}
use Rattle.desk_io.proofs.SortedLaws.{all_rise}

module _ {X : Type 0} (p : X → Bool) where
  -- the elements that pass come first
  pub first_pass : (xs : List X) (i : ℕ) → AllWithin (λ x. p x ≡ true) xs 0 i → AllWithin (λ x. p x ≡ false) xs i (length xs) → take i xs ≡ filter p xs
  first_pass [] zero low high = refl
  first_pass [] (suc i) low high = refl
  first_pass (x ∷ xs) zero low high = rw (high 0 x (omega arith) (omega arith)) (first_pass xs zero (λ j d from under. absurd (omega arith)) (λ j d from under. high (suc j) d (omega arith) (omega arith)))
  first_pass (x ∷ xs) (suc i) low high = rw (low 0 x (omega arith) (omega arith))
      (ap (λ ys. x ∷ ys) (first_pass xs i (λ j d from under. low (suc j) d (omega arith) (omega arith)) (λ j d from under. high (suc j) d (omega arith) (omega arith))))

  -- those that fail come last
  pub last_fail : (q : X → Bool) → ((x : X) (b : Bool) → p x ≡ b → q x ≡ cond b false true) → (xs : List X) (i : ℕ) → AllWithin (λ x. p x ≡ true) xs 0 i → AllWithin (λ x. p x ≡ false) xs i (length xs)
      → drop i xs ≡ filter q xs
  last_fail q other [] zero low high = refl
  last_fail q other [] (suc i) low high = refl
  last_fail q other (x ∷ xs) zero low high = rw (other x false (high 0 x (omega arith) (omega arith)))
      (ap (λ ys. x ∷ ys) (last_fail q other xs zero (λ j d from under. absurd (omega arith)) (λ j d from under. high (suc j) d (omega arith) (omega arith))))
  last_fail q other (x ∷ xs) (suc i) low high = rw (other x true (low 0 x (omega arith) (omega arith)))
      (last_fail q other xs i (λ j d from under. low (suc j) d (omega arith) (omega arith)) (λ j d from under. high (suc j) d (omega arith) (omega arith)))

  -- two tests in turn
  pub filtered_twice : (q : X → Bool) (xs : List X) → filter q (filter p xs) ≡ filter (λ x. p x && q x) xs
  filtered_twice q [] = refl
  filtered_twice q (x ∷ xs) = by (p x) (filtered_twice q xs)
    where
      by : (b : Bool) → filter q (filter p xs) ≡ filter (λ y. p y && q y) xs → filter q (cond b (x ∷ filter p xs) (filter p xs)) ≡ cond (b && q x) (x ∷ filter (λ y. p y && q y) xs) (filter (λ y. p y && q y) xs)
      by true rest = ap (λ ys. cond (q x) (x ∷ ys) ys) rest
      by false rest = rest

lower : (r s : Ordering) → ordering_index r ≤ ordering_index s → is_lt s ≡ true → is_lt r ≡ true
lower Less s le low = refl
lower Equal Less le low = absurd (omega arith)
lower Equal Equal le low = absurd cc
lower Equal Greater le low = absurd cc
lower Greater Less le low = absurd (omega arith)
lower Greater Equal le low = absurd cc
lower Greater Greater le low = absurd cc

no_higher : (r s : Ordering) → ordering_index r ≤ ordering_index s → is_le s ≡ true → is_le r ≡ true
no_higher Less s le low = refl
no_higher Equal s le low = refl
no_higher Greater Less le low = absurd (omega arith)
no_higher Greater Equal le low = absurd (omega arith)
no_higher Greater Greater le low = absurd cc

turned : (r : Ordering) (b : Bool) → is_lt r ≡ b → is_ge r ≡ cond b false true
turned Less true e = refl
turned Less false e = absurd cc
turned Equal true e = absurd cc
turned Equal false e = refl
turned Greater true e = absurd cc
turned Greater false e = refl

module _ {K V : Type 0} (cmp : K → K → Ordering) (total : IsTotalOrder cmp) (k : K) where
  pub parted_below : (es : List (K × V)) → IsStrictlySortedBy cmp (keys_of es) → IsPartitionedBy (λ e. is_lt (cmp e.0 k)) es
  parted_below es sorted i j d le within low = lower (cmp (get_or es i d).0 k) (cmp (get_or es j d).0 k) (all_rise cmp total k es sorted i j d le within) low

  pub parted_upto : (es : List (K × V)) → IsStrictlySortedBy cmp (keys_of es) → IsPartitionedBy (λ e. is_le (cmp e.0 k)) es
  parted_upto es sorted i j d le within low = no_higher (cmp (get_or es i d).0 k) (cmp (get_or es j d).0 k) (all_rise cmp total k es sorted i j d le within) low

  -- the entries from a key on
  pub from_key : (es : List (K × V)) (i : ℕ) → AllWithin (λ e. is_lt (cmp e.0 k) ≡ true) es 0 i → AllWithin (λ e. is_lt (cmp e.0 k) ≡ false) es i (length es)
      → drop i es ≡ filter (λ e. is_ge (cmp e.0 k)) es
  from_key es i low high = last_fail (λ e. is_lt (cmp e.0 k)) (λ e. is_ge (cmp e.0 k)) (λ e b is. turned (cmp e.0 k) b is) es i low high

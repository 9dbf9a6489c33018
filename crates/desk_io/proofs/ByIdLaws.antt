-- What a search finds among values in rising order of their ids, and what an edit at that place does.
use Rattle.std.proofs.Common.{◌≡◌, refl, sym, ap, ◌∙◌, subst, ℕ, zero, suc, ◌<◌, ◌≤◌, ◌==◌, Bool, true, false, cond, ◌||◌, List, [], ◌∷◌, length, get_or, Option, Some, None, Result, Ok, Err, IfOk, IfErr, arith, nat_lt, Ordering, Less, Equal, Greater}
use Rattle.std.proofs.lemmas.Bool.Decides.{nat_tests}
use Rattle.std.specs.Ordering.{ordering_index, nat_cmp, MatchOrdering}
use Rattle.std.specs.Cmp.{ranks}
use Rattle.std.specs.List.{AllByRecursion, find, position, position_or_len, list_any, remove}
use Rattle.std.specs.List.Sorted.{IsNonDecreasingBy, IsBinarySearchResult, IsSearchInRange}
use denote.Ref.{Bor}
use Rattle.std.specs.Option.{is_some, option_copied}
use Rattle.desk_io.specs.ById.{AreRising, has_id, without, StandsAt, GoesAt, IsFoundAt, IsGapAt}

-- Numbers.

pub same : (a b : ℕ) → a ≡ b → (a == b) ≡ true
same a b is = grind (arith, nat_tests)

pub lower : (a b : ℕ) → a < b → (a == b) ≡ false
lower a b is = grind (arith, nat_tests)

pub higher : (a b : ℕ) → b < a → (a == b) ≡ false
higher a b is = grind (arith, nat_tests)

pub below : (a b : ℕ) → a < b → nat_lt a b ≡ true
below a b is = grind (arith, nat_tests)

pub not_below : (a b : ℕ) → b < a → nat_lt a b ≡ false
not_below a b is = grind (arith, nat_tests)

itself : (a : ℕ) → nat_lt a a ≡ false
itself a = grind (arith, nat_tests)

known : (a b : ℕ) (r : Ordering) → nat_cmp a b ≡ r → MatchOrdering r (a < b) (a ≡ b) (b < a)
known a b r is = subst (λ o. MatchOrdering o (a < b) (a ≡ b) (b < a)) is (ranks a b)

index_by : (a b k : ℕ) (r s : Ordering) → a ≤ b → MatchOrdering r (a < k) (a ≡ k) (k < a) → MatchOrdering s (b < k) (b ≡ k) (k < b) → ordering_index r ≤ ordering_index s
index_by a b k Less Less le x y = omega arith
index_by a b k Less Equal le x y = omega arith
index_by a b k Less Greater le x y = omega arith
index_by a b k Equal Less le x y = absurd (omega arith)
index_by a b k Equal Equal le x y = omega arith
index_by a b k Equal Greater le x y = omega arith
index_by a b k Greater Less le x y = absurd (omega arith)
index_by a b k Greater Equal le x y = absurd (omega arith)
index_by a b k Greater Greater le x y = omega arith

-- the higher of two numbers compares no lower
index_rises : (a b k : ℕ) → a ≤ b → ordering_index (nat_cmp a k) ≤ ordering_index (nat_cmp b k)
index_rises a b k le = index_by a b k (nat_cmp a k) (nat_cmp b k) le (ranks a k) (ranks b k)

any_found : {T : Type 0} (p : T → Bool) (xs : List T) → is_some (find p xs) ≡ list_any p xs
any_found p [] = refl
any_found p (x ∷ xs) = by (p x) (any_found p xs)
  where
    by : (b : Bool) → is_some (find p xs) ≡ list_any p xs → is_some (cond b (Some x) (find p xs)) ≡ (b || list_any p xs)
    by true rest = refl
    by false rest = rest

-- whether one was given that is found
pub any_given : {T : Type 0} (p : T → Bool) (xs : List T) (o : Option (Bor T)) → option_copied o ≡ find p xs → is_some o ≡ list_any p xs
any_given p xs None is = ap is_some is ∙ any_found p xs
any_given p xs (Some b) is = ap is_some is ∙ any_found p xs

module _ {T : Type 0} (id_of : T → ℕ) where
  -- all ids are above a number
  abbrev pub Above : ℕ → List T → Type 0
  Above n xs = AllByRecursion (λ x. n < id_of x) xs

  -- each id is below all later ones, by recursion
  abbrev pub Rise : List T → Type 0
  Rise [] = Unit {0}
  Rise (x ∷ xs) = Above (id_of x) xs × Rise xs

  above : (n : ℕ) (xs : List T) → ((j : ℕ) (d : T) → j < length xs → n < id_of (get_or xs j d)) → Above n xs
  above n [] all = tt
  above n (x ∷ xs) all = (all zero x (omega arith), above n xs (λ j d within. all (suc j) d (omega arith)))

  pub above_at : (n : ℕ) (xs : List T) (j : ℕ) (d : T) → Above n xs → j < length xs → n < id_of (get_or xs j d)
  above_at n [] j d all within = absurd (omega arith)
  above_at n (x ∷ xs) zero d all within = all.0
  above_at n (x ∷ xs) (suc j) d all within = above_at n xs j d all.1 (omega arith)

  pub rise : (xs : List T) → AreRising id_of xs → Rise xs
  rise [] pairs = tt
  rise (x ∷ xs) pairs = (
    above (id_of x) xs (λ j d within. pairs zero (suc j) d (omega arith) (omega arith)),
    rise xs (λ i j d before within. pairs (suc i) (suc j) d (omega arith) (omega arith)),
  )

  pub rising : (xs : List T) → Rise xs → AreRising id_of xs
  rising [] all i j d before within = absurd (omega arith)
  rising (x ∷ xs) all zero zero d before within = absurd (omega arith)
  rising (x ∷ xs) all zero (suc j) d before within = above_at (id_of x) xs j d all.0 (omega arith)
  rising (x ∷ xs) all (suc i) zero d before within = absurd (omega arith)
  rising (x ∷ xs) all (suc i) (suc j) d before within = rising xs all.1 i j d (omega arith) (omega arith)

  pub higher_above : (n m : ℕ) (xs : List T) → n ≤ m → Above m xs → Above n xs
  higher_above n m [] le all = tt
  higher_above n m (x ∷ xs) le all = (omega (arith, all.0), higher_above n m xs le all.1)

  -- Where a search ends.

  index_rising : (id : ℕ) (xs : List T) → AreRising id_of xs → IsNonDecreasingBy (λ x. ordering_index (nat_cmp (id_of x) id)) xs
  index_rising id xs pairs i j d le within = by (nat_lt i j) refl
    where
      by : (b : Bool) → nat_lt i j ≡ b → ordering_index (nat_cmp (id_of (get_or xs i d)) id) ≤ ordering_index (nat_cmp (id_of (get_or xs j d)) id)
      by true is =
          let before : i < j = grind (arith, nat_tests, is) in
          let lower = pairs i j d before within in
          index_rises (id_of (get_or xs i d)) (id_of (get_or xs j d)) id (omega (arith, lower))
      by false is =
          let equal : i ≡ j = grind (arith, nat_tests, is, le) in
          subst (λ k. ordering_index (nat_cmp (id_of (get_or xs i d)) id) ≤ ordering_index (nat_cmp (id_of (get_or xs k d)) id)) equal (omega arith)

  module _ (id : ℕ) where
    stands : (xs : List T) (i : ℕ) → Rise xs → i < length xs → ((d : T) → nat_cmp (id_of (get_or xs i d)) id ≡ Equal) → StandsAt id_of id xs i
    stands [] i all within here = absurd (omega arith)
    stands (x ∷ xs) zero all within here = known (id_of x) id Equal (here x)
    stands (x ∷ xs) (suc i) all within here =
        let is = known (id_of (get_or xs i x)) id Equal (here x) in
        let lower = above_at (id_of x) xs i x all.0 (omega arith) in
        (omega (arith, is, lower), stands xs i all.1 (omega arith) here)

    goes : (xs : List T) (i : ℕ) → i ≤ length xs → ((j : ℕ) (d : T) → j < i → nat_cmp (id_of (get_or xs j d)) id ≡ Less)
        → ((j : ℕ) (d : T) → i ≤ j → j < length xs → nat_cmp (id_of (get_or xs j d)) id ≡ Greater) → GoesAt id_of id xs i
    goes [] zero within low high = tt
    goes [] (suc i) within low high = absurd (omega arith)
    goes (x ∷ xs) zero within low high = known (id_of x) id Greater (high zero x (omega arith) (omega arith))
    goes (x ∷ xs) (suc i) within low high = (
      known (id_of x) id Less (low zero x (omega arith)),
      goes xs i (omega arith) (λ j d before. low (suc j) d (omega arith)) (λ j d from under. high (suc j) d (omega arith) (omega arith)),
    )

    -- what a search by halves answers
    pub searched : (xs : List T) (r : Result ℕ ℕ) → AreRising id_of xs → IsSearchInRange r (length xs) → IsBinarySearchResult (λ x. nat_cmp (id_of x) id) xs r
        → IfOk r (IsFoundAt id_of id xs) × IfErr r (IsGapAt id_of id xs)
    searched xs (Ok i) pairs within is = (record { within = within; stands = stands xs i (rise xs pairs) within is }, tt)
    searched xs (Err i) pairs within is =
        let parted = is (index_rising id xs pairs) in
        (tt, record { within = within; goes = goes xs i within (λ j d before. parted.0 j d (omega arith) before) (λ j d from under. parted.1 j d from under) })

    -- Where one of the id stands.

    found : (xs : List T) (i : ℕ) (d : T) → StandsAt id_of id xs i → find (has_id id_of id) xs ≡ Some (get_or xs i d)
    found [] i d at = absurd at
    found (x ∷ xs) zero d at = rw (same (id_of x) id at) refl
    found (x ∷ xs) (suc i) d at = rw (lower (id_of x) id at.0) (found xs i d at.1)

    gone : (xs : List T) (i : ℕ) → StandsAt id_of id xs i → remove xs i ≡ without id_of id xs
    gone [] i at = absurd at
    gone (x ∷ xs) zero at = rw (same (id_of x) id at) refl
    gone (x ∷ xs) (suc i) at = rw (lower (id_of x) id at.0) (ap (λ ys. x ∷ ys) (gone xs i at.1))

    place_at : (xs : List T) (i : ℕ) → StandsAt id_of id xs i → position_or_len (has_id id_of id) xs ≡ i
    place_at [] i at = absurd at
    place_at (x ∷ xs) zero at = rw (same (id_of x) id at) refl
    place_at (x ∷ xs) (suc i) at = rw (lower (id_of x) id at.0) (let rest = place_at xs i at.1 in omega (arith, rest))

    -- Where none does.

    none_above : (xs : List T) → Above id xs → find (has_id id_of id) xs ≡ None
    none_above [] all = refl
    none_above (x ∷ xs) all = rw (higher (id_of x) id all.0) (none_above xs all.1)

    none : (xs : List T) (i : ℕ) → Rise xs → GoesAt id_of id xs i → find (has_id id_of id) xs ≡ None
    none [] i all at = refl
    none (x ∷ xs) zero all at = none_above (x ∷ xs) (at, higher_above id (id_of x) xs (omega (arith, at)) all.0)
    none (x ∷ xs) (suc i) all at = rw (lower (id_of x) id at.0) (none xs i all.1 at.1)

    pub stays_above : (xs : List T) → Above id xs → xs ≡ without id_of id xs
    stays_above [] all = refl
    stays_above (x ∷ xs) all = rw (higher (id_of x) id all.0) (ap (λ ys. x ∷ ys) (stays_above xs all.1))

    stays : (xs : List T) (i : ℕ) → Rise xs → GoesAt id_of id xs i → xs ≡ without id_of id xs
    stays [] i all at = refl
    stays (x ∷ xs) zero all at = stays_above (x ∷ xs) (at, higher_above id (id_of x) xs (omega (arith, at)) all.0)
    stays (x ∷ xs) (suc i) all at = rw (lower (id_of x) id at.0) (ap (λ ys. x ∷ ys) (stays xs i all.1 at.1))

    end_above : (xs : List T) → Above id xs → position_or_len (has_id id_of id) xs ≡ length xs
    end_above [] all = refl
    end_above (x ∷ xs) all = rw (higher (id_of x) id all.0) (let rest = end_above xs all.1 in omega (arith, rest))

    end_at : (xs : List T) (i : ℕ) → Rise xs → GoesAt id_of id xs i → position_or_len (has_id id_of id) xs ≡ length xs
    end_at [] i all at = refl
    end_at (x ∷ xs) zero all at = end_above (x ∷ xs) (at, higher_above id (id_of x) xs (omega (arith, at)) all.0)
    end_at (x ∷ xs) (suc i) all at = rw (lower (id_of x) id at.0) (let rest = end_at xs i all.1 at.1 in omega (arith, rest))

    -- Of values that are seen.

    pub place_found : (seen : List T) (i : ℕ) → IsFoundAt id_of id seen i → Some i ≡ position (has_id id_of id) seen
    place_found seen i is = rw (place_at seen i is.stands) (rw (below i (length seen) is.within) refl)

    pub place_none : (seen : List T) (i : ℕ) → AreRising id_of seen → IsGapAt id_of id seen i → None ≡ position (has_id id_of id) seen
    place_none seen i pairs is = rw (end_at seen i (rise seen pairs) is.goes) (rw (itself (length seen)) refl)

    pub get_found : (xs seen : List T) (i : ℕ) (x : T) → xs ≡ seen → IsFoundAt id_of id seen i → x ≡ get_or xs i x → Some x ≡ find (has_id id_of id) seen
    get_found xs seen i x view is at = ap (λ y. Some y) (at ∙ ap (λ ys. get_or ys i x) view) ∙ sym (found seen i x is.stands)

    pub get_none : (seen : List T) (i : ℕ) → AreRising id_of seen → IsGapAt id_of id seen i → None ≡ find (has_id id_of id) seen
    get_none seen i pairs is = sym (none seen i (rise seen pairs) is.goes)

    pub take_found : (xs seen fresh : List T) (i : ℕ) → xs ≡ seen → IsFoundAt id_of id seen i → fresh ≡ remove xs i → fresh ≡ without id_of id seen
    take_found xs seen fresh i view is after = after ∙ ap (λ ys. remove ys i) view ∙ gone seen i is.stands

    pub take_none : (seen : List T) (i : ℕ) → AreRising id_of seen → IsGapAt id_of id seen i → seen ≡ without id_of id seen
    take_none seen i pairs is = stays seen i (rise seen pairs) is.goes

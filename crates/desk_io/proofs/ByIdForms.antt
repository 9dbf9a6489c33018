-- Other forms in which callers say what they hold and what they take out.
use Rattle.std.proofs.Common.{◌≡◌, refl, sym, ap, ◌∙◌, ℕ, zero, suc, ◌+◌, ◌<◌, ◌≤◌, ◌==◌, Bool, true, false, not, cond, nat_lt, subst, List, [], ◌∷◌, ◌++◌, length, take, drop, filter, Some, None, arith}
use Rattle.std.proofs.lemmas.Bool.Decides.{nat_tests}
use Rattle.std.specs.List.{All, position, position_or_len, remove}
use Rattle.desk_io.specs.ById.{AreRising, has_id, replaced, put, without}
use Rattle.desk_io.proofs.ByIdLaws.{higher, Above, Rise, rise, rising, higher_above, stays_above}

module _ {T : Type 0} (id_of : T → ℕ) where
  -- The ids rise from one number on, all below another, where a recursion says so.
  module _ (Within : ℕ → List T → ℕ → Type 0)
      (none : (low next : ℕ) → Within low [] next → low ≤ next)
      (more : (low next : ℕ) (x : T) (xs : List T) → Within low (x ∷ xs) next → (low ≤ id_of x) × Within (id_of x + 1) xs next) where
    above_low : (n low next : ℕ) (xs : List T) → n < low → Within low xs next → Above id_of n xs
    above_low n low next [] under is = tt
    above_low n low next (x ∷ xs) under is =
        let first = more low next x xs is in
        (omega (arith, first.0), above_low n (id_of x + 1) next xs (omega (arith, first.0)) first.1)

    rise_within : (low next : ℕ) (xs : List T) → Within low xs next → Rise id_of xs
    rise_within low next [] is = tt
    rise_within low next (x ∷ xs) is =
        let first = more low next x xs is in
        (above_low (id_of x) (id_of x + 1) next xs (omega arith) first.1, rise_within (id_of x + 1) next xs first.1)

    pub rising_within : (low next : ℕ) (xs : List T) → Within low xs next → AreRising id_of xs
    rising_within low next xs is = rising id_of xs (rise_within low next xs is)

    low_below : (low next : ℕ) (xs : List T) → Within low xs next → low ≤ next
    low_below low next [] is = none low next is
    low_below low next (x ∷ xs) is =
        let first = more low next x xs is in
        let rest = low_below (id_of x + 1) next xs first.1 in
        omega (arith, first.0, rest)

    -- the next one may be put at the end
    pub all_below : (low next : ℕ) (xs : List T) → Within low xs next → All (λ x. id_of x < next) xs
    all_below low next [] is k d within = absurd (omega arith)
    all_below low next (x ∷ xs) is zero d within = let rest = low_below (id_of x + 1) next xs (more low next x xs is).1 in omega (arith, rest)
    all_below low next (x ∷ xs) is (suc k) d within = all_below (id_of x + 1) next xs (more low next x xs is).1 k d (omega arith)

  -- where no value has the id, all stay
  pub all_stay : (id : ℕ) (xs : List T) → Above id_of id xs → xs ≡ filter (λ x. not (has_id id_of id x)) xs
  all_stay id [] all = refl
  all_stay id (x ∷ xs) all = rw (higher (id_of x) id all.0) (ap (λ ys. x ∷ ys) (all_stay id xs all.1))

  -- The one of an id is the only one.
  others : (id : ℕ) (xs : List T) → Rise id_of xs → without id_of id xs ≡ filter (λ x. not (has_id id_of id x)) xs
  others id [] all = refl
  others id (x ∷ xs) all = by (id_of x == id) refl (others id xs all.1)
    where
      by : (b : Bool) → (id_of x == id) ≡ b → without id_of id xs ≡ filter (λ y. not (has_id id_of id y)) xs → cond b xs (x ∷ without id_of id xs) ≡ cond (not b) (x ∷ filter (λ y. not (has_id id_of id y)) xs) (filter (λ y. not (has_id id_of id y)) xs)
      by true is rest = let equal : id_of x ≡ id = grind (arith, nat_tests, is) in all_stay id xs (subst (λ n. Above id_of n xs) equal all.0)
      by false is rest = ap (λ ys. x ∷ ys) rest

  pub without_filter : (id : ℕ) (xs : List T) → AreRising id_of xs → without id_of id xs ≡ filter (λ x. not (has_id id_of id x)) xs
  without_filter id xs pairs = others id xs (rise id_of xs pairs)

  -- Functions of callers, by what they do at one element.

  pub without_is : (id : ℕ) (f : List T → List T) → [] ≡ f [] → ((x : T) (xs : List T) → cond (id_of x == id) xs (x ∷ f xs) ≡ f (x ∷ xs)) → (xs : List T) → without id_of id xs ≡ f xs
  without_is id f none more [] = none
  without_is id f none more (x ∷ xs) = ap (λ ys. cond (id_of x == id) xs (x ∷ ys)) (without_is id f none more xs) ∙ more x xs

  pub replaced_is : (x : T) (f : List T → List T) → [] ≡ f [] → ((y : T) (ys : List T) → cond (id_of y == id_of x) (x ∷ ys) (y ∷ f ys) ≡ f (y ∷ ys)) → (ys : List T) → replaced id_of x ys ≡ f ys
  replaced_is x f none more [] = none
  replaced_is x f none more (y ∷ ys) = ap (λ zs. cond (id_of y == id_of x) (x ∷ ys) (y ∷ zs)) (replaced_is x f none more ys) ∙ more y ys

  pub put_is : (x : T) (f : List T → List T) → x ∷ [] ≡ f []
      → ((y : T) (ys : List T) → cond (id_of y == id_of x) (x ∷ ys) (cond (nat_lt (id_of x) (id_of y)) (x ∷ y ∷ ys) (y ∷ f ys)) ≡ f (y ∷ ys)) → (ys : List T) → put id_of x ys ≡ f ys
  put_is x f none more [] = none
  put_is x f none more (y ∷ ys) = ap (λ zs. cond (id_of y == id_of x) (x ∷ ys) (cond (nat_lt (id_of x) (id_of y)) (x ∷ y ∷ ys) (y ∷ zs))) (put_is x f none more ys) ∙ more y ys

  stopped : (id : ℕ) (x : T) (xs : List T) → Above id_of (id_of x) xs → without id_of id (x ∷ xs) ≡ cond (id_of x == id) xs (cond (nat_lt id (id_of x)) (x ∷ xs) (x ∷ without id_of id xs))
  stopped id x xs all = by (nat_lt id (id_of x)) refl
    where
      by : (b : Bool) → nat_lt id (id_of x) ≡ b → without id_of id (x ∷ xs) ≡ cond (id_of x == id) xs (cond b (x ∷ xs) (x ∷ without id_of id xs))
      by true is =
          let under : id < id_of x = grind (arith, nat_tests, is) in
          ap (λ ys. cond (id_of x == id) xs (x ∷ ys)) (sym (stays_above id_of id xs (higher_above id_of id (id_of x) xs (omega (arith, under)) all)))
      by false is = refl

  -- where the function goes no further than the first of a greater id
  rise_without_is : (id : ℕ) (f : List T → List T) → [] ≡ f []
      → ((x : T) (xs : List T) → cond (id_of x == id) xs (cond (nat_lt id (id_of x)) (x ∷ xs) (x ∷ f xs)) ≡ f (x ∷ xs)) → (xs : List T) → Rise id_of xs → without id_of id xs ≡ f xs
  rise_without_is id f none more [] all = none
  rise_without_is id f none more (x ∷ xs) all =
      stopped id x xs all.0 ∙ ap (λ ys. cond (id_of x == id) xs (cond (nat_lt id (id_of x)) (x ∷ xs) (x ∷ ys))) (rise_without_is id f none more xs all.1) ∙ more x xs

  pub stopped_without_is : (id : ℕ) (f : List T → List T) → [] ≡ f []
      → ((x : T) (xs : List T) → cond (id_of x == id) xs (cond (nat_lt id (id_of x)) (x ∷ xs) (x ∷ f xs)) ≡ f (x ∷ xs)) → (xs : List T) → AreRising id_of xs → without id_of id xs ≡ f xs
  stopped_without_is id f none more xs pairs = rise_without_is id f none more xs (rise id_of xs pairs)

-- By the place of the first that passes a test.

place_is : {T : Type 0} (p : T → Bool) (xs : List T) (i : ℕ) → position p xs ≡ Some i → (position_or_len p xs ≡ i) × (position_or_len p xs < length xs)
place_is p xs i is = by (nat_lt (position_or_len p xs) (length xs)) refl is
  where
    by : (b : Bool) → nat_lt (position_or_len p xs) (length xs) ≡ b → cond b (Some (position_or_len p xs)) None ≡ Some i → (position_or_len p xs ≡ i) × (position_or_len p xs < length xs)
    by true under is = (cc, grind (arith, nat_tests, under))
    by false under is = absurd cc

no_place : {T : Type 0} (p : T → Bool) (xs : List T) → position p xs ≡ None → length xs ≤ position_or_len p xs
no_place p xs is = by (nat_lt (position_or_len p xs) (length xs)) refl is
  where
    by : (b : Bool) → nat_lt (position_or_len p xs) (length xs) ≡ b → cond b (Some (position_or_len p xs)) None ≡ None → length xs ≤ position_or_len p xs
    by true under is = absurd cc
    by false under is = grind (arith, nat_tests, under)

module _ {T : Type 0} (id_of : T → ℕ) where
  without_place : (id : ℕ) (xs : List T) → without id_of id xs ≡ remove xs (position_or_len (has_id id_of id) xs)
  without_place id [] = refl
  without_place id (x ∷ xs) = by (id_of x == id) (without_place id xs)
    where
      by : (b : Bool) → without id_of id xs ≡ remove xs (position_or_len (has_id id_of id) xs)
          → cond b xs (x ∷ without id_of id xs) ≡ remove (x ∷ xs) (cond (not b) (1 + position_or_len (has_id id_of id) xs) 0)
      by true rest = refl
      by false rest =
          let more : suc (position_or_len (has_id id_of id) xs) ≡ 1 + position_or_len (has_id id_of id) xs = omega arith in
          subst (λ n. x ∷ without id_of id xs ≡ remove (x ∷ xs) n) more (ap (λ ys. x ∷ ys) rest)

  pub without_at : (id : ℕ) (xs : List T) (i : ℕ) → position (has_id id_of id) xs ≡ Some i → without id_of id xs ≡ take i xs ++ drop (i + 1) xs
  without_at id xs i is =
      let more : suc i ≡ i + 1 = omega arith in
      without_place id xs ∙ ap (λ n. remove xs n) (place_is (has_id id_of id) xs i is).0 ∙ ap (λ n. take i xs ++ drop n xs) more

  nowhere : (id : ℕ) (xs : List T) → length xs ≤ position_or_len (has_id id_of id) xs → without id_of id xs ≡ xs
  nowhere id [] far = refl
  nowhere id (x ∷ xs) far = by (id_of x == id) far (λ rest. nowhere id xs rest)
    where
      by : (b : Bool) → length (x ∷ xs) ≤ cond (not b) (1 + position_or_len (has_id id_of id) xs) 0
          → (length xs ≤ position_or_len (has_id id_of id) xs → without id_of id xs ≡ xs) → cond b xs (x ∷ without id_of id xs) ≡ x ∷ xs
      by true far rest = absurd (omega (arith, far))
      by false far rest = ap (λ ys. x ∷ ys) (rest (omega (arith, far)))

  pub without_nowhere : (id : ℕ) (xs : List T) → position (has_id id_of id) xs ≡ None → without id_of id xs ≡ xs
  without_nowhere id xs is = nowhere id xs (no_place (has_id id_of id) xs is)

  module _ (x : T) where
    replaced_place : (ys : List T) → position_or_len (has_id id_of (id_of x)) ys < length ys
        → replaced id_of x ys ≡ take (position_or_len (has_id id_of (id_of x)) ys) ys ++ x ∷ drop (suc (position_or_len (has_id id_of (id_of x)) ys)) ys
    replaced_place [] under = absurd (omega (arith, under))
    replaced_place (y ∷ ys) under = by (id_of y == id_of x) under (λ rest. replaced_place ys rest)
      where
        by : (b : Bool) → cond (not b) (1 + position_or_len (has_id id_of (id_of x)) ys) 0 < length (y ∷ ys)
            → (position_or_len (has_id id_of (id_of x)) ys < length ys
            → replaced id_of x ys ≡ take (position_or_len (has_id id_of (id_of x)) ys) ys ++ x ∷ drop (suc (position_or_len (has_id id_of (id_of x)) ys)) ys)
            → cond b (x ∷ ys) (y ∷ replaced id_of x ys)
            ≡ take (cond (not b) (1 + position_or_len (has_id id_of (id_of x)) ys) 0) (y ∷ ys)
            ++ x ∷ drop (suc (cond (not b) (1 + position_or_len (has_id id_of (id_of x)) ys) 0)) (y ∷ ys)
        by true under rest = refl
        by false under rest =
            let more : suc (position_or_len (has_id id_of (id_of x)) ys) ≡ 1 + position_or_len (has_id id_of (id_of x)) ys = omega arith in
            subst (λ n. y ∷ replaced id_of x ys ≡ take n (y ∷ ys) ++ x ∷ drop (suc n) (y ∷ ys)) more (ap (λ zs. y ∷ zs) (rest (omega (arith, under))))

    pub replaced_at : (ys : List T) (i : ℕ) → position (has_id id_of (id_of x)) ys ≡ Some i → replaced id_of x ys ≡ take i ys ++ x ∷ drop (i + 1) ys
    replaced_at ys i is =
        let more : suc i ≡ i + 1 = omega arith in
        let place = place_is (has_id id_of (id_of x)) ys i is in
        replaced_place ys place.1 ∙ ap (λ n. take n ys ++ x ∷ drop (suc n) ys) place.0 ∙ ap (λ n. take i ys ++ x ∷ drop n ys) more

    unreplaced : (ys : List T) → length ys ≤ position_or_len (has_id id_of (id_of x)) ys → replaced id_of x ys ≡ ys
    unreplaced [] far = refl
    unreplaced (y ∷ ys) far = by (id_of y == id_of x) far (λ rest. unreplaced ys rest)
      where
        by : (b : Bool) → length (y ∷ ys) ≤ cond (not b) (1 + position_or_len (has_id id_of (id_of x)) ys) 0
            → (length ys ≤ position_or_len (has_id id_of (id_of x)) ys → replaced id_of x ys ≡ ys) → cond b (x ∷ ys) (y ∷ replaced id_of x ys) ≡ y ∷ ys
        by true far rest = absurd (omega (arith, far))
        by false far rest = ap (λ zs. y ∷ zs) (rest (omega (arith, far)))

    pub replaced_nowhere : (ys : List T) → position (has_id id_of (id_of x)) ys ≡ None → replaced id_of x ys ≡ ys
    replaced_nowhere ys is = unreplaced ys (no_place (has_id id_of (id_of x)) ys is)

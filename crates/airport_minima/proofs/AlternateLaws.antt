-- The minima of an airport as an alternate are those that its approaches give, and all of them.
use Rattle.std.proofs.Common.{◌≡◌, ℕ, ◌<◌, suc, zero, Bool, true, false, not, List, [], ◌∷◌, ◌++◌, length, map, filter, get_or, All, AllPairs, Contains, refl, ap, sym, subst, ◌∙◌, if◌then◌else◌, arith}
use Rattle.std.specs.Str.{bytes_eq}
use Rattle.std.proofs.lemmas.Bool.{not-true}
use Rattle.std.proofs.lemmas.List.Elements.{All-nil, All-cons, All-map, All-append, All-filter, filter_passes, All-contains_itself, Contains-append_left, Contains-append_right, All-weaker}
use Rattle.std.proofs.lemmas.List.Kept.{AllPairs-cons}
use Rattle.desk_io.proofs.Bytes.{equal_bytes, same_bytes}
use Rattle.desk_io.specs.Station.{Station}
use Rattle.desk_io.specs.declared.pair.Pair.{Pair}
use Rattle.ops_tables.specs.declared.rows.Settings.{Settings}
use Rattle.ops_tables.specs.declared.rows.Approach.{Approach}
use Rattle.ops_tables.specs.declared.rows.AlternateRow.{AlternateRow}
use Rattle.ops_tables.specs.declared.rows.TypeRow.{TypeRow}
use Rattle.ops_tables.specs.Tables.{TableRows, alternates_of}
use Rattle.airport_minima.specs.Minima.{usable, single, double, single_addend, double_addend, are_apart, doubles_with, doubles, derived, own_or, own_minima, alternate_pairs}
use Rattle.airport_minima.specs.Alternate.{IsByOne, IsByTwo, IsGiven, AreGiven, AreAlternateMinima}
use Rattle.airport_minima.specs.Alternate.IsGiven.{ByOne, ByTwo}

pub same_pair : (p q : Pair) → p.ceiling ≡ q.ceiling → p.vis ≡ q.vis → p ≡ q
same_pair p q ceilings visibilities =
    ap (λ c. record { ceiling = c; vis = p.vis }) ceilings ∙ ap (λ v. record { ceiling = q.ceiling; vis = v }) visibilities

mapped_at : {A B : Type 0} (f : A → B) (xs : List A) (x : A) (k : ℕ) → k < length xs → get_or xs k x ≡ x → Contains (map f xs) (f x)
mapped_at f [] x k within is = absurd (omega (arith, within))
mapped_at f (y ∷ xs) x zero within is = (0, omega arith, ap f is)
mapped_at f (y ∷ xs) x (suc k) within is =
    Contains-append_right (f y ∷ []) (map f xs) (f x) (mapped_at f xs x k (omega (arith, within)) is)

pub mapped : {A B : Type 0} (f : A → B) (xs : List A) (x : A) → Contains xs x → Contains (map f xs) (f x)
mapped f xs x there = mapped_at f xs x there.0 there.1 there.2

abbrev pub Stays : {A : Type 0} → (A → Bool) → List A → A → Type 0
Stays p kept x = p x ≡ true → Contains kept x

-- each of a list that passes a test is in the filtered list
stays_by : {A : Type 0} (p : A → Bool) (y : A) (xs : List A) (b : Bool) → p y ≡ b → All (Stays p (filter p xs)) xs
    → All (Stays p (if b then y ∷ filter p xs else filter p xs)) (y ∷ xs)
stays_by p y xs true e rest =
    All-cons (Stays p (y ∷ filter p xs)) y xs (λ passes. (0, omega arith, refl))
    (All-weaker (Stays p (filter p xs)) (Stays p (y ∷ filter p xs))
    (λ x there passes. Contains-append_right (y ∷ []) (filter p xs) x (there passes)) xs rest)
stays_by p y xs false e rest = All-cons (Stays p (filter p xs)) y xs (λ passes. absurd (cc)) rest

pub each_passing : {A : Type 0} (p : A → Bool) (xs : List A) → All (Stays p (filter p xs)) xs
each_passing p [] = All-nil (Stays p [])
each_passing p (y ∷ xs) = stays_by p y xs (p y) refl (each_passing p xs)

-- two approaches are apart where their runways differ, and only there
apart_differ : (a b : Approach) → are_apart a b ≡ true → a.runway ≡ b.runway → ⊥
apart_differ a b apart same =
    let equal : bytes_eq b.runway a.runway ≡ true = subst (λ r. bytes_eq b.runway r ≡ true) (sym same) (equal_bytes b.runway) in
    let unequal = not-true (bytes_eq b.runway a.runway) apart in absurd (cc)

differ_apart : (a b : Approach) (t : Bool) → bytes_eq b.runway a.runway ≡ t → (a.runway ≡ b.runway → ⊥) → not t ≡ true
differ_apart a b true e differ = absurd (differ (sym (same_bytes b.runway a.runway e)))
differ_apart a b false e differ = refl

module _ (settings : Settings) where
  abbrev One : Approach → Pair
  One a = single (single_addend settings) a

  abbrev Two : Approach → Approach → Pair
  Two a b = double (double_addend settings) a b

  abbrev ComesIn : List Pair → Approach → Approach → Type 0
  ComesIn pairs a b = (pair : Pair) → IsByTwo settings a b pair → Contains pairs pair

  one_is : (a : Approach) (pair : Pair) (pairs : List Pair) → IsByOne settings a pair → Contains pairs (One a) → Contains pairs pair
  one_is a pair pairs is there = subst (Contains pairs) (same_pair (One a) pair (sym is.ceiling) (sym is.visibility)) there

  two_is : (a b : Approach) (pair : Pair) (pairs : List Pair) → IsByTwo settings a b pair → Contains pairs (Two a b) → Contains pairs pair
  two_is a b pair pairs is there = subst (Contains pairs) (same_pair (Two a b) pair (sym is.ceiling) (sym is.visibility)) there

  -- the first approach and each later one to another runway
  first_comes : (a : Approach) (later : List Approach) → All (ComesIn (doubles_with (double_addend settings) a later) a) later
  first_comes a later = All-weaker (Stays (λ b. are_apart a b) (filter (λ b. are_apart a b) later)) (ComesIn (doubles_with (double_addend settings) a later) a)
      (λ b stays pair is. two_is a b pair (doubles_with (double_addend settings) a later) is
      (mapped (λ b. Two a b) (filter (λ b. are_apart a b) later) b
      (stays (differ_apart a b (bytes_eq b.runway a.runway) refl is.apart))))
      later (each_passing (λ b. are_apart a b) later)

  twos_come : (approaches : List Approach) → AllPairs (ComesIn (doubles (double_addend settings) approaches)) approaches
  twos_come [] = λ i j d before within. absurd (omega (arith, within))
  twos_come (a ∷ later) =
      let first = doubles_with (double_addend settings) a later in
      let others = doubles (double_addend settings) later in
      AllPairs-cons (ComesIn (first ++ others)) a later
      (All-weaker (ComesIn first a) (ComesIn (first ++ others) a)
      (λ b comes pair is. Contains-append_left first others pair (comes pair is)) later (first_comes a later))
      (λ i j d before within pair is. Contains-append_right first others pair (twos_come later i j d before within pair is))

  -- each pair of doubles is of two of the approaches
  first_given : (all : List Approach) (a : Approach) (later : List Approach) → Contains all a → All (Contains all) later
      → All (IsGiven settings all) (doubles_with (double_addend settings) a later)
  first_given all a later here there =
      All-map (IsGiven settings all) (λ b. Two a b) (filter (λ b. are_apart a b) later)
      (λ k d within. ByTwo a (get_or (filter (λ b. are_apart a b) later) k d) here
      (All-filter (λ b. are_apart a b) (Contains all) later there k d within)
      (record { apart = apart_differ a (get_or (filter (λ b. are_apart a b) later) k d) (filter_passes (λ b. are_apart a b) later k d within); ceiling = refl; visibility = refl }))

  twos_given : (all approaches : List Approach) → All (Contains all) approaches → All (IsGiven settings all) (doubles (double_addend settings) approaches)
  twos_given all [] there = All-nil (IsGiven settings all)
  twos_given all (a ∷ later) there =
      All-append (IsGiven settings all) (doubles_with (double_addend settings) a later) (doubles (double_addend settings) later)
      (first_given all a later (there 0 a (omega arith)) (λ k d within. there (suc k) d (omega (arith, within))))
      (twos_given all later (λ k d within. there (suc k) d (omega (arith, within))))

  ones_given : (all : List Approach) → All (IsGiven settings all) (map (λ a. One a) all)
  ones_given all = All-map (IsGiven settings all) (λ a. One a) all
      (All-weaker (Contains all) (λ a. IsGiven settings all (One a))
      (λ a there. ByOne a there (record { ceiling = refl; visibility = refl })) all (All-contains_itself all))

  are_given : (all : List Approach) → AreGiven settings all (derived settings all)
  are_given all =
      let ones = map (λ a. One a) all in
      let twos = doubles (double_addend settings) all in
      record {
        only = All-append (IsGiven settings all) ones twos (ones_given all) (twos_given all all (All-contains_itself all));
        by_one = All-weaker (Contains all) (λ a. (pair : Pair) → IsByOne settings a pair → Contains (ones ++ twos) pair)
            (λ a there pair is. Contains-append_left ones twos pair (one_is a pair ones is (mapped (λ a. One a) all a there)))
            all (All-contains_itself all);
        by_two = λ i j d before within pair is. Contains-append_right ones twos pair (twos_come all i j d before within pair is);
      }

module _ (tables : TableRows) (kind : TypeRow) (station : Station) (lost : List (List ℕ)) where
  are_alternate : (rows : List AlternateRow) → alternates_of tables station ≡ rows
      → AreAlternateMinima tables kind station lost (own_or rows (derived tables.settings (usable tables kind station lost)))
  are_alternate [] is = record {
    its_own = λ some. absurd (omega (arith, some, ap length is));
    of_approaches = λ none. are_given tables.settings (usable tables kind station lost);
  }
  are_alternate (row ∷ rows) is = record {
    its_own = λ some. ap (map (λ r. own_minima r)) (sym is);
    of_approaches = λ none. absurd (omega (arith, none, ap length is));
  }

  pub alternate_minima : (pairs : List Pair) → pairs ≡ alternate_pairs tables kind station lost → AreAlternateMinima tables kind station lost pairs
  unfolding alternate_pairs
  alternate_minima pairs e = rw e (are_alternate (alternates_of tables station) refl)

-- Names that are each taken once.
use Rattle.std.proofs.Common.{◌≡◌, ◌<◌, ◌+◌, ℕ, Bool, true, false, not, ◌&&◌, ◌||◌, cond, List, [], ◌∷◌, ◌++◌, length, get_or, drop, Bor, refl, ap, ◌∙◌, sym, arith, map, filter, bytes_eq}
use Rattle.std.proofs.lemmas.List.{append_assoc, drop_more}
use Rattle.std.proofs.lemmas.List.Folds.{list_any-append}
use Rattle.std.proofs.lemmas.Slice.Eq.{bytes_eq-Decides}
use Rattle.ops_tables.specs.Names.{has_name}
use Rattle.ops_tables.specs.declared.rows.MelRow.{MelRow}
use Rattle.deferrals.specs.Limits.{once, capabilities_of, names_some, loses_more}

-- where all pass, all stay
pub filter_true : {X : Type 0} (xs : List X) → filter (λ x. true) xs ≡ xs
filter_true [] = refl
filter_true (x ∷ xs) = ap (λ ys. x ∷ ys) (filter_true xs)

-- tests that agree leave the same
filter_same : {X : Type 0} (p q : X → Bool) (xs : List X) → ((x : X) → p x ≡ q x) → filter p xs ≡ filter q xs
filter_same p q [] h = refl
filter_same p q (x ∷ xs) h = rw (h x) (rw (filter_same p q xs h) refl)

-- two tests, one after the other
filter_twice : {X : Type 0} (p q : X → Bool) (xs : List X) → filter p (filter q xs) ≡ filter (λ x. q x && p x) xs
filter_twice p q [] = refl
filter_twice p q (x ∷ xs) = twice p q x xs (q x) (p x) refl refl (filter_twice p q xs)
  where
    twice : {X : Type 0} (p q : X → Bool) (x : X) (xs : List X) (a b : Bool) → q x ≡ a → p x ≡ b → filter p (filter q xs) ≡ filter (λ y. q y && p y) xs
        → filter p (cond a (x ∷ filter q xs) (filter q xs)) ≡ cond (a && b) (x ∷ filter (λ y. q y && p y) xs) (filter (λ y. q y && p y) xs)
    twice p q x xs true true e f rest = rw f (ap (λ ys. x ∷ ys) rest)
    twice p q x xs true false e f rest = rw f rest
    twice p q x xs false b e f rest = rest

-- the names that aren't among the lost ones yet
abbrev pub unseen : List (List ℕ) → List (List ℕ) → List (List ℕ)
unseen lost names = filter (λ name. not (has_name lost name)) names

-- a name that is taken is new, and every later one like it is passed over
unseen_new : (name : List ℕ) (lost names : List (List ℕ)) → has_name lost name ≡ false
    → unseen lost (once (name ∷ names)) ≡ name ∷ unseen (lost ++ name ∷ []) (once names)
unseen_new name lost names new =
    rw new (ap (λ ns. name ∷ ns) (filter_twice (λ n. not (has_name lost n)) (λ n. not (bytes_eq name n)) (once names) ∙ filter_same _ _ (once names) agree))
  where
    either : (a b : Bool) → (not b && not a) ≡ not (a || (b || false))
    either true true = refl
    either true false = refl
    either false true = refl
    either false false = refl

    agree : (other : List ℕ) → (not (bytes_eq name other) && not (has_name lost other)) ≡ not (has_name (lost ++ name ∷ []) other)
    agree other = rw (list_any-append (λ n. bytes_eq n other) lost (name ∷ [])) (either (has_name lost other) (bytes_eq name other))

-- a name that is among the lost ones is passed over
unseen_again : (name : List ℕ) (lost names : List (List ℕ)) → has_name lost name ≡ true
    → unseen lost (once (name ∷ names)) ≡ unseen lost (once names)
unseen_again name lost names again =
    rw again (filter_twice (λ n. not (has_name lost n)) (λ n. not (bytes_eq name n)) (once names) ∙ filter_same _ _ (once names) agree)
  where
    by : (other : List ℕ) (same : Bool) → (same ≡ true → name ≡ other) → (not same && not (has_name lost other)) ≡ not (has_name lost other)
    by other true h = sym (ap not (ap (λ n. has_name lost n) (sym (h refl)) ∙ again))
    by other false h = refl

    agree : (other : List ℕ) → (not (bytes_eq name other) && not (has_name lost other)) ≡ not (has_name lost other)
    agree other = by other (bytes_eq name other) (bytes_eq-Decides name other).0

-- what is still to be lost by rows
abbrev pub left : List (List ℕ) → List MelRow → List (List ℕ)
left lost rows = unseen lost (once (capabilities_of rows))

-- a row whose capability is taken
pub lost_new : (row : MelRow) (rows : List MelRow) (lost : List (List ℕ)) → loses_more row.capability lost ≡ true
    → (lost ++ row.capability ∷ []) ++ left (lost ++ row.capability ∷ []) rows ≡ lost ++ left lost (row ∷ rows)
lost_new row rows lost h = by (names_some row.capability) (has_name lost row.capability) refl refl h
  where
    by : (some has : Bool) → names_some row.capability ≡ some → has_name lost row.capability ≡ has → (some && not has) ≡ true
        → (lost ++ row.capability ∷ []) ++ left (lost ++ row.capability ∷ []) rows ≡ lost ++ left lost (row ∷ rows)
    by true false s e h = rw s (append_assoc lost (row.capability ∷ []) _ ∙ ap (λ ns. lost ++ ns) (sym (unseen_new row.capability lost (capabilities_of rows) e)))
    by true true s e h = grind arith
    by false has s e h = grind arith

-- a row that takes away nothing more
pub lost_again : (row : MelRow) (rows : List MelRow) (lost : List (List ℕ)) → loses_more row.capability lost ≡ false
    → left lost rows ≡ left lost (row ∷ rows)
lost_again row rows lost h = by (names_some row.capability) (has_name lost row.capability) refl refl h
  where
    by : (some has : Bool) → names_some row.capability ≡ some → has_name lost row.capability ≡ has → (some && not has) ≡ false
        → left lost rows ≡ left lost (row ∷ rows)
    by true true s e h = rw s (sym (unseen_again row.capability lost (capabilities_of rows) e))
    by true false s e h = grind arith
    by false has s e h = rw s refl

-- the same for the rows that are left of some rows
pub lost_step : (rows : List (Bor MelRow)) (i : ℕ) (row : Bor MelRow) (lost next : List (List ℕ)) → i < length rows → row ≡ get_or rows i row
    → next ++ left next (map (λ r. r.now) (drop (i + 1) rows)) ≡ lost ++ left lost (row.now ∷ map (λ r. r.now) (drop (i + 1) rows))
    → next ++ left next (map (λ r. r.now) (drop (i + 1) rows)) ≡ lost ++ left lost (map (λ r. r.now) (drop i rows))
lost_step rows i row lost next within is h =
    h ∙ ap (λ rs. lost ++ left lost (map (λ r. r.now) rs)) (sym (drop_more rows i row within ∙ ap (λ r. r ∷ drop (i + 1) rows) (sym is)))

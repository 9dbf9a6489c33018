-- Items that stand in rows of one kind, each under its number.
use Rattle.std.proofs.Common.{◌≡◌, ℕ, ◌+◌, ◌<◌, Bool, true, false, ◌&&◌, ◌||◌, not, cond, eqb, List, [], ◌∷◌, ◌++◌, Option, None, Some, refl, ap, sym, ◌∙◌, subst, arith, eq-eqb}
use Rattle.std.specs.Prelude.{suc, filter, find, map}
use Rattle.std.specs.Option.{option_map}
use Rattle.std.specs.List.{AllByRecursion, AllPairs, list_any}
use Rattle.std.proofs.lemmas.Bool.{eqb-true}
use Rattle.std.proofs.lemmas.Bool.Decides.{nat_tests}
use Rattle.std.proofs.lemmas.List.Elements.{recursion_from_All}
use Rattle.desk_state.proofs.Parts.{filter_each}
use Rattle.desk_io.specs.declared.rows.Row.{Row}
use Rattle.desk_io.specs.declared.rows.Change.{Change}
use Rattle.desk_io.specs.declared.rows.Change.TheVariants.{Remove}
use Rattle.desk_io.specs.Rows.{is_row, rows_of}
use Rattle.row_changes.proofs.Parts.{Body, becomes, IsIn, IsTo, IsOutside, Leads, rows_outside, left_alone}
use Rattle.desk_io.proofs.Each.{each_weaker}

-- two tests that don't both hold may change their order
pub exchanged : (s t : Bool) (one two rest : Option Body) → (t ≡ true → s ≡ false) → cond s one (cond t two rest) ≡ cond t two (cond s one rest)
exchanged true true one two rest apart = absurd (let e = apart refl in cc)
exchanged true false one two rest apart = refl
exchanged false t one two rest apart = refl

pub twice : (s : Bool) (one two rest : Option Body) → cond s one (cond s two rest) ≡ cond s one rest
twice true one two rest = refl
twice false one two rest = refl

pub none_alike : (s : Bool) → cond s None None ≡ let o : Option Body = None in o
none_alike true = refl
none_alike false = refl

pub not_both : (a b q : ℕ) → eqb a b ≡ false → eqb a q ≡ true → eqb b q ≡ false
not_both a b q one two = grind (arith, nat_tests, one, two)

pub above_not : (a b q : ℕ) → a < b → eqb a q ≡ true → eqb b q ≡ false
above_not a b q less one = grind (arith, nat_tests, less, one)

below_not : (a b q : ℕ) → a < b → eqb b q ≡ true → eqb a q ≡ false
below_not a b q less one = grind (arith, nat_tests, less, one)

pub none_any : {A : Type 0} (p : A → Bool) (xs : List A) → AllByRecursion (λ x. p x ≡ false) xs → list_any p xs ≡ false
none_any p [] all = refl
none_any p (x ∷ xs) all = rw all.0 (none_any p xs all.1)

-- numbers that rise
abbrev pub Ascends : {A : Type 0} → (A → ℕ) → List A → Type 0
Ascends key [] = Unit {0}
Ascends key (x ∷ xs) = AllByRecursion (λ y. key x < key y) xs × Ascends key xs

pub ascends_from : {A : Type 0} (key : A → ℕ) (xs : List A) → AllPairs (λ a b. key a < key b) xs → Ascends key xs
ascends_from key [] pairs = tt
ascends_from key (x ∷ xs) pairs = (
  recursion_from_All (λ y. key x < key y) xs (λ i d within. pairs 0 (suc i) d (omega arith) (omega (arith, within))),
  ascends_from key xs (λ i j d less within. pairs (suc i) (suc j) d (omega (arith, less)) (omega (arith, within))),
)

-- the body of the item of a number
abbrev pub found_at : {A : Type 0} → (A → ℕ) → (A → Body) → ℕ → List A → Option Body
found_at key body q [] = None
found_at key body q (x ∷ xs) = cond (eqb (key x) q) (Some (body x)) (found_at key body q xs)

module _ {A : Type 0} (key : A → ℕ) (body : A → Body) where
  pub absent : (q : ℕ) (xs : List A) → AllByRecursion (λ x. eqb (key x) q ≡ false) xs → found_at key body q xs ≡ None
  absent q [] all = refl
  absent q (x ∷ xs) all = rw all.0 (absent q xs all.1)

  pub none_later : (q low : ℕ) (xs : List A) → eqb low q ≡ true → AllByRecursion (λ y. low < key y) xs → AllByRecursion (λ y. eqb (key y) q ≡ false) xs
  none_later q low xs is above = each_weaker (λ y. low < key y) (λ y. eqb (key y) q ≡ false) (λ y less. above_not low (key y) q less is) xs above

  -- one more at the end, of a number above all
  pub pushed : (xs : List A) (x : A) → AllByRecursion (λ y. key y < key x) xs → (q : ℕ)
      → cond (eqb (key x) q) (Some (body x)) (found_at key body q xs) ≡ found_at key body q (xs ++ x ∷ [])
  pushed [] x below q = refl
  pushed (y ∷ xs) x below q =
      sym (exchanged (eqb (key y) q) (eqb (key x) q) (Some (body y)) (Some (body x)) (found_at key body q xs) (below_not (key y) (key x) q below.0))
      ∙ ap (λ o. cond (eqb (key y) q) (Some (body y)) o) (pushed xs x below.1 q)

  -- those of one number go
  pub without_found : (id : ℕ) (xs : List A) (q : ℕ)
      → cond (eqb id q) None (found_at key body q xs) ≡ found_at key body q (filter (λ x. not (eqb (key x) id)) xs)
  without_found id [] q = none_alike (eqb id q)
  without_found id (x ∷ xs) q = by (eqb (key x) id) refl (without_found id xs q)
    where
      by : (u : Bool) → eqb (key x) id ≡ u
          → cond (eqb id q) None (found_at key body q xs) ≡ found_at key body q (filter (λ x. not (eqb (key x) id)) xs)
          → cond (eqb id q) None (cond (eqb (key x) q) (Some (body x)) (found_at key body q xs))
          ≡ found_at key body q (cond (not u) (x ∷ filter (λ x. not (eqb (key x) id)) xs) (filter (λ x. not (eqb (key x) id)) xs))
      by true e rest =
          ap (λ (n : ℕ). cond (eqb id q) None (cond (eqb n q) (Some (body x)) (found_at key body q xs))) (eqb-true (key x) id e)
          ∙ twice (eqb id q) None (Some (body x)) (found_at key body q xs)
          ∙ rest
      by false e rest =
          exchanged (eqb id q) (eqb (key x) q) None (Some (body x)) (found_at key body q xs) (not_both (key x) id q e)
          ∙ ap (λ o. cond (eqb (key x) q) (Some (body x)) o) rest

  abbrev pub is_of : ℕ → A → Bool
  is_of q x = eqb (key x) q

  merged : (t u : Bool) (o : Option Body) → cond u None (cond t None o) ≡ cond (t || u) None o
  merged true u o = none_alike u
  merged false u o = refl

  -- many go, one after another
  pub removed : (n q : ℕ) (xs : List A) (o : Option Body) → becomes n q (map (λ x. Remove n (key x)) xs) o ≡ cond (list_any (is_of q) xs) None o
  removed n q [] o = refl
  removed n q (x ∷ xs) o =
      ap (λ (b : Bool). becomes n q (map (λ y. Remove n (key y)) xs) (cond (b && eqb (key x) q) None o)) (eq-eqb n n refl)
      ∙ removed n q xs (cond (eqb (key x) q) None o)
      ∙ merged (eqb (key x) q) (list_any (is_of q) xs) o

  -- those go that don't pass
  pub filtered : (p : A → Bool) (xs : List A) → Ascends key xs → (q : ℕ)
      → cond (list_any (is_of q) (filter (λ x. not (p x)) xs)) None (found_at key body q xs) ≡ found_at key body q (filter p xs)
  filtered p [] rising q = refl
  filtered p (x ∷ xs) rising q = by (p x) (eqb (key x) q) refl (filtered p xs rising.1 q)
    where
      gone : List A
      gone = filter (λ x. not (p x)) xs

      over : (r : A → Bool) → AllByRecursion (λ y. key x < key y) (filter r xs)
      over r = filter_each (λ y. key x < key y) r xs rising.0

      by : (u t : Bool) → eqb (key x) q ≡ t
          → cond (list_any (is_of q) (filter (λ x. not (p x)) xs)) None (found_at key body q xs) ≡ found_at key body q (filter p xs)
          → cond (list_any (is_of q) (cond (not u) (x ∷ filter (λ x. not (p x)) xs) (filter (λ x. not (p x)) xs))) None (cond t (Some (body x)) (found_at key body q xs))
          ≡ found_at key body q (cond u (x ∷ filter p xs) (filter p xs))
      by true t e rest =
          rw e
          (exchanged (list_any (is_of q) (filter (λ x. not (p x)) xs)) t None (Some (body x)) (found_at key body q xs)
          (λ is. none_any (is_of q) (filter (λ x. not (p x)) xs) (none_later q (key x) (filter (λ x. not (p x)) xs) (e ∙ is) (over (λ x. not (p x)))))
          ∙ ap (λ o. cond t (Some (body x)) o) rest)
      by false true e rest = rw e (sym (absent q (filter p xs) (none_later q (key x) (filter p xs) e (over p))))
      by false false e rest = rw e rest

-- Rows of one kind.
module _ {A : Type 0} (r : A → Row) (n : ℕ) (kinds : (x : A) → (r x).kind ≡ n) where
  abbrev pub key_in : A → ℕ
  key_in x = (r x).key

  abbrev pub body_in : A → Body
  body_in x = (r x).body

  seen : (t : Bool) (x : A) (o : Option Row) (p : Option Body) → option_map (λ (row : Row). row.body) o ≡ p → option_map (λ (row : Row). row.body) (cond t (Some (r x)) o) ≡ cond t (Some (body_in x)) p
  seen true x o p e = refl
  seen false x o p e = e

  -- their rows are found by number
  pub seen_at : (xs : List A) (q : ℕ) → rows_of (map r xs) n q ≡ found_at key_in body_in q xs
  seen_at [] q = refl
  seen_at (x ∷ xs) q =
      ap (λ (b : Bool). option_map (λ (row : Row). row.body) (cond (b && eqb (r x).key q) (Some (r x)) (find (is_row n q) (map r xs)))) (eq-eqb (r x).kind n (kinds x))
      ∙ seen (eqb (r x).key q) x (find (is_row n q) (map r xs)) (found_at key_in body_in q xs) (seen_at xs q)

  pub one_kind : (xs : List A) → AllByRecursion (IsIn n (n + 1)) (map r xs)
  one_kind [] = tt
  one_kind (x ∷ xs) = ((let e = kinds x in omega (arith, e), let e = kinds x in omega (arith, e)), one_kind xs)

  outside : (k : ℕ) → eqb n k ≡ false → IsOutside n (n + 1) k
  outside k e kind low high = let same : kind ≡ n = omega (arith, low, high) in ap (λ m. eqb m k) same ∙ e

  -- changes that lead from items to items lead from their rows to their rows
  pub part : (xs ys : List A) (cs : List Change) → AllByRecursion (IsTo n (n + 1)) cs
      → ((q : ℕ) → becomes n q cs (found_at key_in body_in q xs) ≡ found_at key_in body_in q ys) → Leads n (n + 1) (map r xs) (map r ys) cs
  part xs ys cs only leads = record { before = one_kind xs; after = one_kind ys; only = only; leads = λ k q. by k q (eqb n k) refl }
    where
      by : (k q : ℕ) (b : Bool) → eqb n k ≡ b → becomes k q cs (rows_of (map r xs) k q) ≡ rows_of (map r ys) k q
      by k q true e =
          subst (λ m. becomes m q cs (rows_of (map r xs) m q) ≡ rows_of (map r ys) m q) (eqb-true n k e)
          (ap (λ o. becomes n q cs o) (seen_at xs q) ∙ leads q ∙ sym (seen_at ys q))
      by k q false e =
          ap (λ o. becomes k q cs o) (rows_outside n (n + 1) k q (map r xs) (outside k e) (one_kind xs))
          ∙ left_alone n (n + 1) k q cs None (outside k e) only
          ∙ sym (rows_outside n (n + 1) k q (map r ys) (outside k e) (one_kind ys))

-- Lists that begin others, and the elements of a number.
use Rattle.std.proofs.Common.{◌≡◌, ◌≢◌, ◌⊎◌, inl, inr, ⊎_elim, ℕ, ◌≤◌, ◌<◌, ◌==◌, true, false, cond, Bool, nat_lt, List, [], ◌∷◌, ◌++◌, length, refl, sym, ap, ◌∙◌, arith, append_assoc, length-append, eq-eqb, ne_eqb, ltb-true, ltb-false}
use Rattle.std.proofs.lemmas.List.{append-nil}
use Rattle.std.proofs.lemmas.List.Elements.{filter-append}
use mathlib.Core.List.{IsPrefix}
use Rattle.turn_lock.specs.Elements.{IsAmong, elements_of, EachBears, longer_of}

-- ---- numbers

pub only_among : (n k : ℕ) → IsAmong n (k ∷ []) → n ≡ k
only_among n k is = ⊎_elim (λ e. e) absurd is

pub among_either : (n : ℕ) (xs ys : List ℕ) → IsAmong n (xs ++ ys) → IsAmong n xs ⊎ IsAmong n ys
among_either n [] ys is = inr is
among_either n (x ∷ xs) ys is = ⊎_elim (λ e. inl (inl e)) (λ j. ⊎_elim (λ a. inl (inr a)) inr (among_either n xs ys j)) is

module _ {A : Type 0} where
  pub prefix_self : (xs : List A) → IsPrefix xs xs
  prefix_self xs = ([], append-nil xs)

  pub prefix_trans : (xs ys zs : List A) → IsPrefix xs ys → IsPrefix ys zs → IsPrefix xs zs
  prefix_trans xs ys zs p q = (p.0 ++ q.0, sym (append_assoc xs p.0 q.0) ∙ (ap (λ w. w ++ q.0) p.1 ∙ q.1))

  pub prefix_more : (xs ys more : List A) → IsPrefix xs ys → IsPrefix xs (ys ++ more)
  prefix_more xs ys more p = prefix_trans xs ys (ys ++ more) p (more, refl)

  -- of two beginnings of one list the shorter begins the longer
  pub prefix_shorter : (xs ys zs : List A) → IsPrefix xs zs → IsPrefix ys zs → length xs ≤ length ys → IsPrefix xs ys
  prefix_shorter [] ys zs p q le = (ys, refl)
  prefix_shorter (x ∷ xs) [] zs p q le = absurd (omega arith)
  prefix_shorter (x ∷ xs) (y ∷ ys) [] p q le = absurd (cc (p.1))
  prefix_shorter (x ∷ xs) (y ∷ ys) (z ∷ zs) p q le =
      let heads : x ≡ y = cc (p.1, q.1) in
      let rest = prefix_shorter xs ys zs (p.0, cc (p.1)) (q.0, cc (q.1)) (omega arith) in
      (rest.0, cc (heads, rest.1))

  nil_of_length : (xs : List A) → length xs ≡ 0 → xs ≡ []
  nil_of_length [] e = refl
  nil_of_length (x ∷ xs) e = absurd (omega arith)

  longer_by : (xs ys zs : List A) → IsPrefix xs zs → IsPrefix ys zs → (b : Bool) → nat_lt (length xs) (length ys) ≡ b
      → IsPrefix xs (cond b ys xs) × IsPrefix ys (cond b ys xs) × IsPrefix (cond b ys xs) zs
  longer_by xs ys zs p q true e = let lt : length xs < length ys = ltb-true (length xs) (length ys) e in (prefix_shorter xs ys zs p q (omega arith), prefix_self ys, q)
  longer_by xs ys zs p q false e = (prefix_self xs, prefix_shorter ys xs zs q p (ltb-false (length xs) (length ys) e), p)

  -- two beginnings of one list begin the longer of them, which is one too
  pub longer_begins : (xs ys zs : List A) → IsPrefix xs zs → IsPrefix ys zs → IsPrefix xs (longer_of xs ys) × IsPrefix ys (longer_of xs ys) × IsPrefix (longer_of xs ys) zs
  longer_begins xs ys zs p q = longer_by xs ys zs p q (nat_lt (length xs) (length ys)) refl

-- ---- the elements of a number

module _ {E : Type 0} (bears : E → ℕ) where
  pub elements_of-append : (n : ℕ) (xs ys : List E) → elements_of bears n (xs ++ ys) ≡ elements_of bears n xs ++ elements_of bears n ys
  elements_of-append n xs ys = filter-append (λ e. bears e == n) xs ys

  -- one that bears it, and one that doesn't
  its_own : (n : ℕ) (x : E) (xs : List E) → bears x ≡ n → elements_of bears n (x ∷ xs) ≡ x ∷ elements_of bears n xs
  its_own n x xs is = ap (λ t. cond t (x ∷ elements_of bears n xs) (elements_of bears n xs)) (eq-eqb (bears x) n is)

  another : (n : ℕ) (x : E) (xs : List E) → bears x ≢ n → elements_of bears n (x ∷ xs) ≡ elements_of bears n xs
  another n x xs isnt = ap (λ t. cond t (x ∷ elements_of bears n xs) (elements_of bears n xs)) (ne_eqb (bears x) n isnt)

  pub elements_of-own : (n : ℕ) (xs : List E) (x : E) → bears x ≡ n → elements_of bears n (xs ++ x ∷ []) ≡ elements_of bears n xs ++ x ∷ []
  elements_of-own n xs x is = elements_of-append n xs (x ∷ []) ∙ ap (λ l. elements_of bears n xs ++ l) (its_own n x [] is)

  pub elements_of-another : (n : ℕ) (xs : List E) (x : E) → bears x ≢ n → elements_of bears n (xs ++ x ∷ []) ≡ elements_of bears n xs
  elements_of-another n xs x isnt = elements_of-append n xs (x ∷ []) ∙ (ap (λ l. elements_of bears n xs ++ l) (another n x [] isnt) ∙ append-nil (elements_of bears n xs))

  none_of_another : (n m : ℕ) (xs : List E) → n ≢ m → EachBears bears m xs → elements_of bears n xs ≡ []
  none_of_another n m [] ne each = refl
  none_of_another n m (x ∷ xs) ne each = another n x xs (λ e. ne (sym e ∙ each.0)) ∙ none_of_another n m xs ne each.1

  -- a list that goes on with elements of one number has no more of another
  pub adds_none : (n m : ℕ) (old new more : List E) → new ≡ old ++ more → EachBears bears m more → n ≢ m → elements_of bears n new ≡ elements_of bears n old
  adds_none n m old new more grown each ne =
      ap (elements_of bears n) grown ∙ (elements_of-append n old more ∙ (ap (λ l. elements_of bears n old ++ l) (none_of_another n m more ne each) ∙ append-nil (elements_of bears n old)))

  -- what begins a list has no more elements of a number than it
  rest_of : (n : ℕ) (xs ys : List E) (p : IsPrefix xs ys) → elements_of bears n ys ≡ elements_of bears n xs ++ elements_of bears n p.0
  rest_of n xs ys p = ap (elements_of bears n) (sym p.1) ∙ elements_of-append n xs p.0

  -- a list between two that have the same elements of a number has them too
  pub same_between : (n : ℕ) (xs ys zs : List E) → IsPrefix xs ys → IsPrefix ys zs → elements_of bears n zs ≡ elements_of bears n xs → elements_of bears n zs ≡ elements_of bears n ys
  same_between n xs ys zs p q same =
      let a = rest_of n xs ys p in
      let b = rest_of n ys zs q in
      let none : length (elements_of bears n q.0) ≡ 0 = omega (
        arith,
        ap length a,
        ap length b,
        ap length same,
        length-append (elements_of bears n xs) (elements_of bears n p.0),
        length-append (elements_of bears n ys) (elements_of bears n q.0),
      ) in
      b ∙ (ap (λ l. elements_of bears n ys ++ l) (nil_of_length (elements_of bears n q.0) none) ∙ append-nil (elements_of bears n ys))

  -- the same of the list between and the first
  pub none_between : (n : ℕ) (xs ys zs : List E) → IsPrefix xs ys → IsPrefix ys zs → elements_of bears n zs ≡ elements_of bears n xs → elements_of bears n ys ≡ elements_of bears n xs
  none_between n xs ys zs p q same = sym (same_between n xs ys zs p q same) ∙ same

  -- what the whole lacks is in no beginning of it
  pub none_in_front : (n : ℕ) (xs ys : List E) → IsPrefix xs ys → elements_of bears n ys ≡ [] → elements_of bears n xs ≡ []
  none_in_front n xs ys p none =
      nil_of_length (elements_of bears n xs) (omega (arith, ap length (rest_of n xs ys p), ap length none, length-append (elements_of bears n xs) (elements_of bears n p.0)))

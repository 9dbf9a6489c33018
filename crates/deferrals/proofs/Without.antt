-- A list without the one element of an id.
use Rattle.std.proofs.Common.{◌≡◌, ◌≢◌, ℕ, zero, suc, ◌<◌, Bool, true, false, not, cond, eqb, eqb-true, eq-eqb, nat_lt, List, [], ◌∷◌, length, get_or, refl, ap, sym, ◌∙◌, arith, ltb-false, Option, Some, None, is_some, IfNone, IfSome, inl, inr}
use Rattle.std.specs.List.{All, find, slice_get, filter, remove, position, position_or_len, list_any}
use Rattle.std.proofs.lemmas.Bool.Decides.{nat_tests}
use Rattle.std.proofs.lemmas.Bool.{cases_lt}
use Rattle.std.proofs.lemmas.List.Elements.{All-head, All-tail}
use Rattle.std.proofs.lemmas.Option.{get_or_from_slice_get, slice_get-get_or, slice_get_past}
use Rattle.std.proofs.lemmas.List.Folds.{find_at, list_any_none, list_any_at}
use Rattle.std.proofs.lemmas.List.Sums.{fails_before_first}
use Rattle.std.proofs.lemmas.List.Quantifiers.{position-Some}
use Rattle.deferrals.specs.declared.items.Deferral.{Deferral}
use Rattle.deferrals.specs.Held.{AreRising, has_id, without}

-- where all pass, all stay
pub filter-all : {X : Type 0} (q : X → Bool) (xs : List X) → All (λ x. q x ≡ true) xs → filter q xs ≡ xs
filter-all q [] h = refl
filter-all q (x ∷ xs) h =
    rw (All-head (λ y. q y ≡ true) x xs h) (ap (λ ys. x ∷ ys) (filter-all q xs (All-tail (λ y. q y ≡ true) x xs h)))

-- where one fails, its removal leaves those that pass
pub remove-filter : {X : Type 0} (q : X → Bool) (xs : List X) (i : ℕ) → i < length xs
    → ((d : X) → q (get_or xs i d) ≡ false)
    → ((k : ℕ) (d : X) → k < length xs → k ≢ i → q (get_or xs k d) ≡ true)
    → filter q xs ≡ remove xs i
remove-filter q [] i within fails others = absurd (omega arith)
remove-filter q (x ∷ xs) zero within fails others =
    rw (fails x) (filter-all q xs (λ k d h. others (suc k) d (omega arith) (λ e. omega arith)))
remove-filter q (x ∷ xs) (suc i) within fails others =
    rw (others zero x (omega arith) (λ e. omega arith))
    (ap (λ ys. x ∷ ys) (remove-filter q xs i (omega arith) fails (λ k d h ne. others (suc k) d (omega arith) (λ e. ne (omega arith)))))

-- where no place is found, none has the id, and all stay
pub absent : {X : Type 0} (p : X → Bool) (xs : List X) → position p xs ≡ None → All (λ x. p x ≡ false) xs
absent p xs h k d within = fails_before_first p xs k d (past (position_or_len p xs) (length xs) k h within)
  where
    past : (place count k : ℕ) → cond (nat_lt place count) (Some place) None ≡ None → k < count → k < place
    past place count k h within = grind (arith, nat_tests)

-- the place that is found is within the list
pub found_within : {X : Type 0} (p : X → Bool) (xs : List X) (i : ℕ) → position p xs ≡ Some i → i < length xs
found_within p xs i h = within (position_or_len p xs) (length xs) i h
  where
    within : (place count i : ℕ) → cond (nat_lt place count) (Some place) None ≡ Some i → i < count
    within place count i h = grind (arith, nat_tests)

-- ids that rise are all different
different : (list : List Deferral) (i k : ℕ) (d : Deferral) → AreRising list → i < length list → k < length list → k ≢ i
    → (get_or list k d).id ≢ (get_or list i d).id
different list i k d rising i_within k_within ne e =
    elim (cases_lt i k) [
      | inl before ↦ absurd (omega (arith, rising i k d before k_within))
      | inr after ↦ absurd (omega (arith, rising k i d (omega arith) i_within))
    ]

passes : (id : ℕ) (list : List Deferral) (i : ℕ) → AreRising list → position (has_id id) list ≡ Some i
    → (k : ℕ) (d : Deferral) → k < length list → k ≢ i → not (has_id id (get_or list k d)) ≡ true
passes id list i rising h k d within ne =
    let i_within : i < length list = found_within (has_id id) list i h in
    let here : has_id id (get_or list i d) ≡ true = (position-Some (has_id id) list i d h).1 in
    let other : (get_or list k d).id ≢ (get_or list i d).id = different list i k d rising i_within within ne in
    grind (arith, nat_tests)

-- of deferrals whose ids rise only the one at a place has its id
pub only_one : (id : ℕ) (list : List Deferral) (i : ℕ) (x : Deferral) → AreRising list → position (has_id id) list ≡ Some i → get_or list i x ≡ x → All (λ d. has_id id d ≡ true → d ≡ x) list
only_one id list i x rising at is k d within has = by (eqb k i) refl
  where
    by : (b : Bool) → eqb k i ≡ b → get_or list k d ≡ x
    by true e = ap (λ j. get_or list j d) (eqb-true k i e) ∙ get_or_from_slice_get list i x d (slice_get-get_or list i x (found_within (has_id id) list i at) ∙ ap Some is)
    by false e = absurd (let other = passes id list i rising at k d within (λ same. let t = eq-eqb k i same in cc) in let not_it = ap not has in cc)

pub its_id : (id : ℕ) (list : List Deferral) (i : ℕ) (x : Deferral) → position (has_id id) list ≡ Some i → get_or list i x ≡ x → x.id ≡ id
its_id id list i x at is = eqb-true x.id id (ap (has_id id) (sym is) ∙ (position-Some (has_id id) list i x at).1)

-- what the place of an id says of a list whose ids rise
pub place_answer : (id : ℕ) (list : List Deferral) (place : Option ℕ) → place ≡ position (has_id id) list
    → list_any (has_id id) list ≡ is_some place
place_answer id list None e = list_any_none (has_id id) list (absent (has_id id) list (sym e))
place_answer id list (Some i) e =
    let d : Deferral = record { id = 0; tail = []; item = []; found = 0 } in
    list_any_at (has_id id) list i d (found_within (has_id id) list i (sym e)) (position-Some (has_id id) list i d (sym e)).1

pub place_none : (id : ℕ) (list : List Deferral) (place : Option ℕ) → place ≡ position (has_id id) list
    → IfNone place (without id list ≡ list)
place_none id list None e = filter-all (λ d. not (has_id id d)) list (λ k d within. ap not (absent (has_id id) list (sym e) k d within))
place_none id list (Some i) e = tt

pub place_found : (id : ℕ) (list : List Deferral) (place : Option ℕ) → AreRising list → place ≡ position (has_id id) list
    → IfSome place (λ i. (i < length list) × (without id list ≡ remove list i))
place_found id list None rising e = tt
place_found id list (Some i) rising e = (
  found_within (has_id id) list i (sym e),
  remove-filter (λ d. not (has_id id d)) list i (found_within (has_id id) list i (sym e))
      (λ d. ap not (position-Some (has_id id) list i d (sym e)).1)
      (passes id list i rising (sym e)),
)

-- what stands at the place that is found is what is found
pub placed_is : (id : ℕ) (list : List Deferral) (i : ℕ) → position (has_id id) list ≡ Some i → slice_get list i ≡ find (has_id id) list
placed_is id list i found = ap (slice_get list) (by (nat_lt (position_or_len (has_id id) list) (length list)) found) ∙ sym (find_at (has_id id) list)
  where
    by : (b : Bool) → cond b (Some (position_or_len (has_id id) list)) None ≡ Some i → i ≡ position_or_len (has_id id) list
    by true is = cc
    by false is = absurd (cc)

pub placed_none : (id : ℕ) (list : List Deferral) → position (has_id id) list ≡ None → find (has_id id) list ≡ None
placed_none id list none = find_at (has_id id) list ∙ by (nat_lt (position_or_len (has_id id) list) (length list)) refl none
  where
    by : (b : Bool) → nat_lt (position_or_len (has_id id) list) (length list) ≡ b → cond b (Some (position_or_len (has_id id) list)) None ≡ None
        → slice_get list (position_or_len (has_id id) list) ≡ None
    by true e is = absurd (cc)
    by false e is = slice_get_past list (position_or_len (has_id id) list) (ltb-false (position_or_len (has_id id) list) (length list) e)

-- What a search by halves finds among floors in byte order of the names.
use Rattle.std.proofs.Common.{◌≡◌, refl, sym, ap, ◌∙◌, ℕ, zero, suc, ◌<◌, ◌≤◌, Bool, true, false, List, [], ◌∷◌, length, get_or, None, Result, Ok, Err, arith, nat_lt, Ordering, Less, Equal, Greater}
use Rattle.std.proofs.lemmas.Bool.Decides.{nat_tests}
use Rattle.std.proofs.lemmas.Cmp.{nat_list_cmp_total, alike_right}
use Rattle.std.proofs.lemmas.Map.Text.{is_eq-slice_cmp}
use Rattle.std.specs.Ordering.{ordering_index, nat_cmp, is_eq}
use Rattle.std.specs.Cmp.Lexicographic.{slice_cmp}
use Rattle.std.specs.Option.{option_and_then}
use Rattle.std.specs.Result.{result_ok}
use Rattle.std.specs.List.{AllByRecursion, find, slice_get}
use Rattle.std.specs.List.Sorted.{IsNonDecreasingBy, IsBinarySearchResult, IsSearchInRange}
use Rattle.std.specs.Str.{bytes_eq}
use Rattle.asks.specs.declared.kept.Floor.{Floor}
use Rattle.kept_replies.specs.Requests.{FloorsRise}

abbrev order : List ℕ → List ℕ → Ordering
order a b = slice_cmp nat_cmp a b

at_most : (r : Ordering) → ordering_index r ≤ 2
at_most Less = omega arith
at_most Equal = omega arith
at_most Greater = omega arith

rises : (x y k : List ℕ) (r : Ordering) → order x y ≡ Less → order y k ≡ r → ordering_index (order x k) ≤ ordering_index r
rises x y k Less below e = let same = nat_list_cmp_total.trans x y k below e in rw same (omega arith)
rises x y k Equal below e = let same = sym (alike_right nat_list_cmp_total y k x e) ∙ below in rw same (omega arith)
rises x y k Greater below e = at_most (order x k)

later_at : (f : Floor) (fs : List Floor) (j : ℕ) (d : Floor) → AllByRecursion (λ (g : Floor). order f.actor g.actor ≡ Less) fs → j < length fs → order f.actor (get_or fs j d).actor ≡ Less
later_at f [] j d all within = absurd (omega arith)
later_at f (g ∷ fs) zero d all within = all.0
later_at f (g ∷ fs) (suc j) d all within = later_at f fs j d all.1 (omega arith)

module _ (actor : List ℕ) where
  -- the later of two floors compares no lower with a name
  pub floors_compare : (fs : List Floor) → FloorsRise fs → IsNonDecreasingBy (λ f. ordering_index (order f.actor actor)) fs
  floors_compare [] rising i j d le within = absurd (omega arith)
  floors_compare (f ∷ fs) rising zero zero d le within = omega arith
  floors_compare (f ∷ fs) rising zero (suc j) d le within =
      rises f.actor (get_or fs j d).actor actor (order (get_or fs j d).actor actor) (later_at f fs j d rising.0 (omega arith)) refl
  floors_compare (f ∷ fs) rising (suc i) zero d le within = absurd (omega arith)
  floors_compare (f ∷ fs) rising (suc i) (suc j) d le within = floors_compare fs rising.1 i j d (omega arith) (omega arith)

  named_by : (f : Floor) (o : Ordering) → order f.actor actor ≡ o → bytes_eq f.actor actor ≡ is_eq o
  named_by f o e = sym (is_eq-slice_cmp f.actor actor) ∙ ap is_eq e

  stands : (fs : List Floor) (i : ℕ) → FloorsRise fs → i < length fs → ((d : Floor) → order (get_or fs i d).actor actor ≡ Equal) → slice_get fs i ≡ find (λ f. bytes_eq f.actor actor) fs
  stands [] i rising within e = absurd (omega arith)
  stands (f ∷ fs) zero rising within e = let is = named_by f Equal (e f) in rw is refl
  stands (f ∷ fs) (suc i) rising within e =
      let less = later_at f fs i f rising.0 (omega arith) in
      let is = named_by f Less (sym (alike_right nat_list_cmp_total (get_or fs i f).actor actor f.actor (e f)) ∙ less) in
      rw is (stands fs i rising.1 (omega arith) e)

  absent : (fs : List Floor) → ((j : ℕ) (d : Floor) → j < length fs → is_eq (order (get_or fs j d).actor actor) ≡ false) → find (λ f. bytes_eq f.actor actor) fs ≡ None
  absent [] none = refl
  absent (f ∷ fs) none =
      let is = sym (is_eq-slice_cmp f.actor actor) ∙ none zero f (omega arith) in
      rw is (absent fs (λ j d within. none (suc j) d (omega arith)))

  other : (fs : List Floor) (i j : ℕ) (d : Floor) (b : Bool) → nat_lt j i ≡ b → j < length fs → (j < i → order (get_or fs j d).actor actor ≡ Less)
      → (i ≤ j → order (get_or fs j d).actor actor ≡ Greater) → is_eq (order (get_or fs j d).actor actor) ≡ false
  other fs i j d true e within low high = ap is_eq (low (grind (arith, nat_tests, e)))
  other fs i j d false e within low high = ap is_eq (high (grind (arith, nat_tests, e)))

  -- where a search by halves ends there is the floor of the name, or there is none
  pub place_is : (fs : List Floor) (r : Result ℕ ℕ) → FloorsRise fs → IsSearchInRange r (length fs) → IsBinarySearchResult (λ f. order f.actor actor) fs r
      → option_and_then (slice_get fs) (result_ok r) ≡ find (λ f. bytes_eq f.actor actor) fs
  place_is fs (Ok i) rising within is = stands fs i rising within is
  place_is fs (Err i) rising within is =
      let parted = is (floors_compare fs rising) in
      sym (absent fs (λ j d inside. other fs i j d (nat_lt j i) refl inside (λ before. parted.0 j d (omega arith) before) (λ from. parted.1 j d from inside)))

-- A floor that rises in its place, which a search by halves finds.
use Rattle.std.proofs.Common.{◌≡◌, refl, ℕ, zero, suc, ◌+◌, ◌<◌, ◌≤◌, max, Bool, true, false, not, cond, List, [], ◌∷◌, ◌++◌, length, take, drop, get_or, ap, sym, subst, ◌∙◌, add-one, arith, Ok, Err, Ordering, Less, Equal, Greater}
use Rattle.std.specs.Prelude.{slice_set}
use Rattle.std.specs.List.{AllByRecursion}
use Rattle.std.specs.List.Sorted.{IsBinarySearchResult, IsSearchInRange}
use Rattle.std.specs.Ordering.{nat_cmp, ordering_reverse}
use Rattle.std.specs.Cmp.Lexicographic.{slice_cmp}
use Rattle.std.proofs.lemmas.Cmp.{nat_list_cmp_total, alike_right}
use Rattle.std.proofs.lemmas.List.{set_split, drop_more}
use Rattle.asks.specs.declared.kept.Floor.{Floor}
use Rattle.asks.specs.declared.kept.KeptReply.{KeptReply}
use Rattle.asks.specs.Forms.{FloorsRise}
use Rattle.kept_replies.proofs.FloorLaws.{floors_compare}
use Rattle.desk_state.proofs.FloorForms.{raised_rise}
use Rattle.desk_state.specs.Requests.{floor, raised_to, raised_by, kept_before, is_since}
use Rattle.decisions.specs.Floors.{first_raised, raised_at}

replaced : (fs : List Floor) (place : ℕ) (f : Floor) → place < length fs → slice_set fs place f ≡ take place fs ++ f ∷ drop (place + 1) fs
replaced fs place f within = rw add-one (set_split fs place f within)

pub raised_in_place : (fs : List Floor) (place number most : ℕ) (f : Floor) → place < length fs → f ≡ get_or fs place f → most ≡ max f.number number
    → slice_set fs place (floor f.actor most) ≡ take place fs ++ first_raised number (drop place fs)
raised_in_place fs place number most f within there is =
    replaced fs place (floor f.actor most) within
    ∙ ap (λ n. take place fs ++ floor f.actor n ∷ drop (place + 1) fs) is
    ∙ ap (λ list. take place fs ++ first_raised number list) (sym (drop_more fs place f within ∙ ap (λ x. x ∷ drop (place + 1) fs) (sym there)))

raised_by_place : (fs : List Floor) (place number most : ℕ) (found : Bool) (actor : List ℕ) (f : Floor) → found ≡ true → place + (cond found 1 0) ≤ length fs
    → raised_to actor number fs ≡ raised_at place found actor number fs → f ≡ get_or fs place f → most ≡ max f.number number
    → slice_set fs place (floor f.actor most) ≡ raised_to actor number fs
raised_by_place fs place number most true actor f e within stands there is = raised_in_place fs place number most f (omega (arith, within)) there is ∙ sym stands
raised_by_place fs place number most false actor f e within stands there is = absurd (cc)

-- the floor of a person that is there is at least a number
pub raised_found : (fs slice : List Floor) (name actor : List ℕ) (place number most : ℕ) (found : Bool) (f : Floor) → slice ≡ fs → name ≡ actor → found ≡ true
    → place + (cond found 1 0) ≤ length slice → ((n : ℕ) → raised_to name n slice ≡ raised_at place found name n slice) → f ≡ get_or fs place f → most ≡ max f.number number
    → slice_set fs place (floor f.actor most) ≡ raised_to actor number fs
raised_found fs slice name actor place number most found f same called e within stands there is =
    raised_by_place fs place number most found actor f e (subst (λ (list : List Floor). place + (cond found 1 0) ≤ length list) same within)
    (subst (λ (who : List ℕ). raised_to who number fs ≡ raised_at place found who number fs) called
    (subst (λ (list : List Floor). raised_to name number list ≡ raised_at place found name number list) same (stands number)))
    there is

-- Where a search by halves ends.

turned : (a b : List ℕ) (o : Ordering) → slice_cmp nat_cmp a b ≡ o → slice_cmp nat_cmp b a ≡ ordering_reverse o
turned a b o e = nat_list_cmp_total.antisymm b a ∙ ap ordering_reverse e

later_at : (f : Floor) (fs : List Floor) (j : ℕ) (d : Floor) → AllByRecursion (λ (g : Floor). slice_cmp nat_cmp f.actor g.actor ≡ Less) fs → j < length fs
    → slice_cmp nat_cmp f.actor (get_or fs j d).actor ≡ Less
later_at f [] j d all within = absurd (omega arith)
later_at f (g ∷ fs) zero d all within = all.0
later_at f (g ∷ fs) (suc j) d all within = later_at f fs j d all.1 (omega arith)

module _ (actor : List ℕ) where
  abbrev order : Floor → Ordering
  order f = slice_cmp nat_cmp f.actor actor

  stands : (fs : List Floor) (i : ℕ) (number : ℕ) → FloorsRise fs → i < length fs → ((d : Floor) → order (get_or fs i d) ≡ Equal) → raised_to actor number fs ≡ raised_at i true actor number fs
  stands [] i number rising within e = absurd (omega arith)
  stands (f ∷ fs) zero number rising within e = rw (turned f.actor actor Equal (e f)) refl
  stands (f ∷ fs) (suc i) number rising within e =
      let less = later_at f fs i f rising.0 (omega arith) in
      let before = sym (alike_right nat_list_cmp_total (get_or fs i f).actor actor f.actor (e f)) ∙ less in
      rw (turned f.actor actor Less before) (ap (λ gs. f ∷ gs) (stands fs i number rising.1 (omega arith) e))

  absent : (fs : List Floor) (i : ℕ) (number : ℕ) → i ≤ length fs → ((j : ℕ) (d : Floor) → j < i → j < length fs → order (get_or fs j d) ≡ Less)
      → ((j : ℕ) (d : Floor) → i ≤ j → j < length fs → order (get_or fs j d) ≡ Greater) → raised_to actor number fs ≡ raised_at i false actor number fs
  absent [] zero number within low high = refl
  absent [] (suc i) number within low high = absurd (omega arith)
  absent (f ∷ fs) zero number within low high = rw (turned f.actor actor Greater (high 0 f (omega arith) (omega arith))) refl
  absent (f ∷ fs) (suc i) number within low high =
      rw (turned f.actor actor Less (low 0 f (omega arith) (omega arith)))
      (ap (λ gs. f ∷ gs) (absent fs i number (omega arith) (λ j d before inside. low (suc j) d (omega arith) (omega arith)) (λ j d from inside. high (suc j) d (omega arith) (omega arith))))

  -- the floor is there
  pub found_place : (fs : List Floor) (i : ℕ) → FloorsRise fs → IsSearchInRange (Ok i) (length fs) → IsBinarySearchResult order fs (Ok i) → (i + 1 ≤ length fs) × ((number : ℕ) → raised_to actor number fs ≡ raised_at i true actor number fs)
  found_place fs i rising within is = (omega (arith, within), λ number. stands fs i number rising within is)

  -- or it would stand there
  pub gap_place : (fs : List Floor) (i : ℕ) → FloorsRise fs → IsSearchInRange (Err i) (length fs) → IsBinarySearchResult order fs (Err i) → (i + 0 ≤ length fs) × ((number : ℕ) → raised_to actor number fs ≡ raised_at i false actor number fs)
  gap_place fs i rising within is =
      let parted = is (floors_compare actor fs rising) in
      (omega (arith, within), λ number. absent fs i number within (λ j d before inside. parted.0 j d (omega arith) before) (λ j d from inside. parted.1 j d from inside))

-- one more reply is swept away
pub swept_one : (before : ℕ) (kept shown : List KeptReply) (i : ℕ) (d : KeptReply) (fs fresh all : List Floor) → shown ≡ kept → i < length shown → d ≡ get_or shown i d
    → fresh ≡ raised_by (kept_before before (d ∷ [])) fs → raised_by (kept_before before (drop i kept)) fs ≡ all → raised_by (kept_before before (drop (i + 1) kept)) fresh ≡ all
swept_one before kept shown i d fs fresh all same within there is before_it =
    ap (raised_by (kept_before before (drop (i + 1) kept))) is ∙ by (is_since before d)
    ∙ ap (λ ks. raised_by (kept_before before ks) fs) (sym (ap (drop i) (sym same) ∙ drop_more shown i d within ∙ ap (λ x. x ∷ drop (i + 1) shown) (sym there) ∙ ap (λ ks. d ∷ drop (i + 1) ks) same)) ∙ before_it
  where
    by : (b : Bool) → raised_by (kept_before before (drop (i + 1) kept)) (raised_by (cond (not b) (d ∷ []) []) fs)
        ≡ raised_by (cond (not b) (d ∷ kept_before before (drop (i + 1) kept)) (kept_before before (drop (i + 1) kept))) fs
    by true = refl
    by false = refl

pub swept_rise : (before : ℕ) (d : KeptReply) (fs fresh : List Floor) → FloorsRise fs → fresh ≡ raised_by (kept_before before (d ∷ [])) fs → FloorsRise fresh
swept_rise before d fs fresh rising is = subst FloorsRise (sym is) (raised_rise (kept_before before (d ∷ [])) fs rising)

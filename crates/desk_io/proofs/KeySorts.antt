-- A vector of keys that is sorted and in which each key is left once.
use Rattle.std.proofs.Common.{◌≡◌, refl, sym, ap, ◌∙◌, Bool, true, false, cond, ◌||◌, ◌&&◌, List, [], ◌∷◌, Ordering, Less, Equal, Greater}
use Rattle.std.proofs.lemmas.Cmp.{alike_right, on_total, then_total}
use Rattle.std.proofs.lemmas.List.Kept.{IsStrictlySortedBy-dedup}
use Rattle.std.proofs.lemmas.List.Sorted.{list_any-IsPermutation}
use Rattle.std.specs.Ordering.{ordering_then, is_eq}
use Rattle.std.specs.Cmp.{IsTotalOrder, tied_then}
use Rattle.std.specs.List.{AllByRecursion, list_any, dedup, dedup_from}
use Rattle.std.specs.List.Sorted.{IsStrictlySortedBy, IsSorted, IsPermutation}
use Rattle.std.specs.Map.{keys_of}
use Rattle.std.specs.BTreeMap.{is_at}

any_keys : {K V : Type 0} (t : K → Bool) (es : List (K × V)) → list_any t (keys_of es) ≡ list_any (λ e. t e.0) es
any_keys t [] = refl
any_keys t (e ∷ es) = ap (λ b. t e.0 || b) (any_keys t es)

same_twice : (a b : Bool) → (a || b) ≡ (a || (a || b))
same_twice true b = refl
same_twice false b = refl

then_less : (r : Ordering) → ordering_then r Equal ≡ Less → r ≡ Less
then_less Less e = refl
then_less Equal e = absurd cc
then_less Greater e = absurd cc

then_equal : (r : Ordering) → is_eq (ordering_then r Equal) ≡ true → r ≡ Equal
then_equal Less e = absurd cc
then_equal Equal e = refl
then_equal Greater e = absurd cc

units : IsTotalOrder {K = Unit {0}} (λ _ _. Equal)
units = record { antisymm = λ x y. refl; trans = λ x y z one two. one; congr = λ x y z e. refl }

module _ {K : Type 0} (cmp : K → K → Ordering) (total : IsTotalOrder cmp) (eq : K → K → Bool) (ties : (x y : K) → eq x y ≡ is_eq (cmp x y)) where
  abbrev order : K × Unit {0} → K × Unit {0} → Ordering
  order x y = ordering_then (cmp x.0 y.0) Equal

  abbrev same : K × Unit {0} → K × Unit {0} → Bool
  same x y = eq x.0 y.0 && true

  order_total : IsTotalOrder order
  order_total = then_total (on_total (λ (t : K × Unit {0}). t.0) total) (on_total (λ (t : K × Unit {0}). t.1) units)

  order_ties : (x y : K × Unit {0}) → same x y ≡ is_eq (order x y)
  order_ties x y = ap (λ b. b && true) (ties x.0 y.0) ∙ tied_then (cmp x.0 y.0) Equal

  low_keys : (k : K) (es : List (K × Unit {0})) → AllByRecursion (λ y. order (k, tt) y ≡ Less) es → AllByRecursion (λ y. cmp k y ≡ Less) (keys_of es)
  low_keys k [] all = tt
  low_keys k (e ∷ es) all = (then_less (cmp k e.0) all.0, low_keys k es all.1)

  rising_keys : (es : List (K × Unit {0})) → IsStrictlySortedBy order es → IsStrictlySortedBy cmp (keys_of es)
  unfolding IsStrictlySortedBy
  rising_keys [] all = tt
  rising_keys (e ∷ es) all = (low_keys e.0 es all.0, rising_keys es all.1)

  -- the keys rise once they are sorted and each is left once
  pub left_rise : (sorted fresh : List (K × Unit {0})) → IsSorted order sorted → fresh ≡ dedup same sorted → IsStrictlySortedBy cmp (keys_of fresh)
  left_rise sorted fresh is left = rising_keys fresh (rw left (IsStrictlySortedBy-dedup order_total order_ties sorted is))

  module _ (q : K) where
    abbrev here : K × Unit {0} → Bool
    here e = is_at (cmp q) e.0

    alike : (x k : K × Unit {0}) → same x k ≡ true → here x ≡ here k
    alike x k e = ap is_eq (alike_right total x.0 k.0 q (then_equal (cmp x.0 k.0) (sym (order_ties x k) ∙ e)))

    left_from : (k : K × Unit {0}) (es : List (K × Unit {0})) → list_any here (dedup_from same k es) ≡ (here k || list_any here es)
    left_from k [] = refl
    left_from k (e ∷ es) = by (same e k) refl (left_from k es) (left_from e es)
      where
        by : (b : Bool) → same e k ≡ b → list_any here (dedup_from same k es) ≡ (here k || list_any here es) → list_any here (dedup_from same e es) ≡ (here e || list_any here es)
            → list_any here (cond b (dedup_from same k es) (k ∷ dedup_from same e es)) ≡ (here k || (here e || list_any here es))
        by true is one two = one ∙ same_twice (here k) (list_any here es) ∙ sym (ap (λ b. here k || (b || list_any here es)) (alike e k is))
        by false is one two = ap (λ b. here k || b) two

    left_all : (es : List (K × Unit {0})) → list_any here (dedup same es) ≡ list_any here es
    left_all [] = refl
    left_all (e ∷ es) = left_from e es

    -- and they are those of the vector
    pub left_held : (es sorted fresh : List (K × Unit {0})) → IsPermutation es sorted → fresh ≡ dedup same sorted → list_any (is_at (cmp q)) (keys_of fresh) ≡ list_any (is_at (cmp q)) (keys_of es)
    left_held es sorted fresh moved left =
        any_keys (is_at (cmp q)) fresh ∙ ap (list_any here) left ∙ left_all sorted ∙ sym (list_any-IsPermutation here es sorted moved) ∙ sym (any_keys (is_at (cmp q)) es)

-- What other edits of entries in rising order do: one value, all values, and a part of the entries.
use Rattle.std.proofs.Common.{◌≡◌, refl, sym, ap, ◌∙◌, subst, ℕ, zero, suc, ◌+◌, ◌<◌, ◌≤◌, Bool, true, false, cond, List, [], ◌∷◌, length, filter, get_or, set, Option, Some, None, arith, nat_lt, Ordering, Less, Equal, Greater, option_map}
use Rattle.std.specs.Cmp.{IsTotalOrder, eq_by_cmp_equiv}
use Rattle.std.specs.List.{AllByRecursion, items_where_true}
use Rattle.std.specs.List.Retain.{IsFiltered}
use Rattle.std.specs.List.Sorted.{IsStrictlySortedBy}
use Rattle.std.specs.Map.{lookup, keys_of, remove_entry}
use Rattle.std.specs.BTreeMap.{is_at}
use Rattle.std.proofs.lemmas.Map.{lookup-remove_entry}
use Rattle.std.proofs.lemmas.Map.Entries.{lookup-filter-values, option_filter}
use Rattle.std.proofs.lemmas.Map.Keys.{IsDistinct-from_sorted}
use Rattle.desk_io.specs.Sorted.{IsFoundAt, IsGapAt, if_below}
use Rattle.desk_io.proofs.SortedLaws.{value_found, value_gap, put_found, value_with}

-- the keys stay where a value is written
pub keys_set : {K V : Type 0} (es : List (K × V)) (i : ℕ) (e : K × V) (v : V) → e ≡ get_or es i e → keys_of (set es i (e.0, v)) ≡ keys_of es
keys_set [] i e v at = refl
keys_set (f ∷ es) zero e v at = ap (λ (x : _ × _). x.0 ∷ keys_of es) at
keys_set (f ∷ es) (suc i) e v at = ap (λ ks. f.0 ∷ ks) (keys_set es i e v at)

-- the value of each of the first entries is that one, and the others are as they were
abbrev pub set_first : {K V : Type 0} → V → ℕ → List (K × V) → List (K × V)
set_first v zero es = es
set_first v (suc n) [] = []
set_first v (suc n) (e ∷ es) = (e.0, v) ∷ set_first v n es

one_more : {K V : Type 0} (v : V) (n : ℕ) (es : List (K × V)) (x : K × V) → n < length es → x ≡ get_or (set_first v n es) n x → set (set_first v n es) n (x.0, v) ≡ set_first v (suc n) es
one_more v zero [] x within at = absurd (omega arith)
one_more v zero (e ∷ es) x within at = ap (λ (y : _ × _). (y.0, v) ∷ es) at
one_more v (suc n) [] x within at = absurd (omega arith)
one_more v (suc n) (e ∷ es) x within at = ap (λ ys. (e.0, v) ∷ ys) (one_more v n es x (omega arith) at)

-- the loop's step
pub set_next : {K V : Type 0} (v : V) (n : ℕ) (es fs : List (K × V)) (x : K × V) → fs ≡ set_first v n es → n < length es → x ≡ get_or fs n x → set fs n (x.0, v) ≡ set_first v (n + 1) es
set_next v n es fs x is within at =
    let more : suc n ≡ n + 1 = omega arith in
    ap (λ xs. set xs n (x.0, v)) is ∙ one_more v n es x within (subst (λ xs. x ≡ get_or xs n x) is at) ∙ ap (λ m. set_first v m es) more

keys_first : {K V : Type 0} (v : V) (n : ℕ) (es : List (K × V)) → keys_of (set_first v n es) ≡ keys_of es
keys_first v zero es = refl
keys_first v (suc n) [] = refl
keys_first v (suc n) (e ∷ es) = ap (λ ks. e.0 ∷ ks) (keys_first v n es)

value_first : {K V : Type 0} (v : V) (p : K → Bool) (n : ℕ) (es : List (K × V)) → length es ≤ n → lookup p (set_first v n es) ≡ option_map (λ _. v) (lookup p es)
value_first v p zero [] all = refl
value_first v p zero (e ∷ es) all = absurd (omega arith)
value_first v p (suc n) [] all = refl
value_first v p (suc n) (e ∷ es) all = by (p e.0) (value_first v p n es (omega arith))
  where
    by : (b : Bool) → lookup p (set_first v n es) ≡ option_map (λ _. v) (lookup p es) → cond b (Some v) (lookup p (set_first v n es)) ≡ option_map (λ _. v) (cond b (Some e.1) (lookup p es))
    by true rest = refl
    by false rest = rest

-- once each value is that one
pub all_set_keys : {K V : Type 0} (v : V) (n : ℕ) (es seen fresh : List (K × V)) → es ≡ seen → fresh ≡ set_first v n es → keys_of fresh ≡ keys_of seen
all_set_keys v n es seen fresh view is = ap keys_of is ∙ keys_first v n es ∙ ap keys_of view

pub all_set_values : {K V : Type 0} (v : V) (p : K → Bool) (n : ℕ) (es seen fresh : List (K × V)) → es ≡ seen → fresh ≡ set_first v n es → length es ≤ n
    → lookup p fresh ≡ option_map (λ _. v) (lookup p seen)
all_set_values v p n es seen fresh view is all =
    ap (lookup p) is ∙ value_first v p n es all ∙ ap (λ xs. option_map (λ _. v) (lookup p xs)) view

module _ {K V : Type 0} (cmp : K → K → Ordering) where
  pub sorted_same : (es fresh : List (K × V)) → keys_of fresh ≡ keys_of es → IsStrictlySortedBy cmp (keys_of es) → IsStrictlySortedBy cmp (keys_of fresh)
  sorted_same es fresh same sorted = subst (IsStrictlySortedBy cmp) (sym same) sorted

  each_part : (P : K → Type 0) (p : K × V → Bool) (es : List (K × V)) → AllByRecursion P (keys_of es) → AllByRecursion P (keys_of (filter p es))
  each_part P p [] all = tt
  each_part P p (e ∷ es) all = by (p e) (each_part P p es all.1)
    where
      by : (b : Bool) → AllByRecursion P (keys_of (filter p es)) → AllByRecursion P (keys_of (cond b (e ∷ filter p es) (filter p es)))
      by true rest = (all.0, rest)
      by false rest = rest

  sorted_part : (p : K × V → Bool) (es : List (K × V)) → IsStrictlySortedBy cmp (keys_of es) → IsStrictlySortedBy cmp (keys_of (filter p es))
  unfolding IsStrictlySortedBy
  sorted_part p [] sorted = tt
  sorted_part p (e ∷ es) sorted = by (p e) (sorted_part p es sorted.1)
    where
      by : (b : Bool) → IsStrictlySortedBy cmp (keys_of (filter p es)) → IsStrictlySortedBy cmp (keys_of (cond b (e ∷ filter p es) (filter p es)))
      by true rest = (each_part (λ y. cmp e.0 y ≡ Less) p es sorted.0, rest)
      by false rest = rest

  pub sorted_filtered : (p : K × V → Bool) (es fresh : List (K × V)) → fresh ≡ filter p es → IsStrictlySortedBy cmp (keys_of es) → IsStrictlySortedBy cmp (keys_of fresh)
  sorted_filtered p es fresh is sorted = subst (λ xs. IsStrictlySortedBy cmp (keys_of xs)) (sym is) (sorted_part p es sorted)

  each_where : (P : K → Type 0) (bs : List Bool) (es : List (K × V)) → AllByRecursion P (keys_of es) → AllByRecursion P (keys_of (items_where_true bs es))
  each_where P [] es all = tt
  each_where P (b ∷ bs) [] all = tt
  each_where P (true ∷ bs) (e ∷ es) all = (all.0, each_where P bs es all.1)
  each_where P (false ∷ bs) (e ∷ es) all = each_where P bs es all.1

  sorted_where : (bs : List Bool) (es : List (K × V)) → IsStrictlySortedBy cmp (keys_of es) → IsStrictlySortedBy cmp (keys_of (items_where_true bs es))
  unfolding IsStrictlySortedBy
  sorted_where [] es sorted = tt
  sorted_where (b ∷ bs) [] sorted = tt
  sorted_where (true ∷ bs) (e ∷ es) sorted = (each_where (λ y. cmp e.0 y ≡ Less) bs es sorted.0, sorted_where bs es sorted.1)
  sorted_where (false ∷ bs) (e ∷ es) sorted = sorted_where bs es sorted.1

  -- the keys that a test leaves rise, whatever it answers
  pub sorted_kept : {P : Type 0} (R : P → K × V → Bool → P → Type 0) (p : P) (es fresh : List (K × V)) → IsFiltered R p es fresh → IsStrictlySortedBy cmp (keys_of es)
      → IsStrictlySortedBy cmp (keys_of fresh)
  sorted_kept R p es fresh is sorted = subst (λ xs. IsStrictlySortedBy cmp (keys_of xs)) (sym is.4) (sorted_where is.0 es sorted)

  module _ (total : IsTotalOrder cmp) (k : K) (v : V) where
    same_place : (q : K) (es : List (K × V)) → cmp q k ≡ Equal → lookup (is_at (cmp q)) es ≡ lookup (is_at (cmp k)) es
    same_place q [] e = refl
    same_place q (f ∷ es) e = let same = total.congr q k f.0 e in rw same (ap (λ o. cond (is_at (cmp k) f.0) (Some f.1) o) (same_place q es e))

    over : (q : K) (r : Ordering) (o l : Option V) → cmp q k ≡ r → (cmp q k ≡ Equal → o ≡ l) → (l ≡ None → ⊥) → cond (is_at (cmp q) k) (Some v) o ≡ cond (is_at (cmp q) k) (option_map (λ _. v) o) o
    over q Less o l e same there = rw e refl
    over q Greater o l e same there = rw e refl
    over q Equal None l e same there = absurd (there (sym (same e)))
    over q Equal (Some w) l e same there = rw e refl

    -- the value at the key, where it is there
    pub replaced_found : (es seen : List (K × V)) (i : ℕ) (e : K × V) (q : K) → es ≡ seen → IsFoundAt cmp k seen i → e ≡ get_or es i e
        → lookup (is_at (cmp q)) (set es i (e.0, v)) ≡ cond (is_at (cmp q) k) (option_map (λ _. v) (lookup (is_at (cmp q)) seen)) (lookup (is_at (cmp q)) seen)
    replaced_found es seen i e q view is at =
        let there = value_found cmp total k seen i e is in
        ap (lookup (is_at (cmp q))) (put_found cmp total k v es seen i e view is at) ∙ value_with cmp total k v q seen
        ∙ over q (cmp q k) (lookup (is_at (cmp q)) seen) (lookup (is_at (cmp k)) seen) refl (same_place q seen) (λ none. let h = sym none ∙ there in cc)

    untouched : (q : K) (r : Ordering) (o l : Option V) → cmp q k ≡ r → (cmp q k ≡ Equal → o ≡ l) → l ≡ None → o ≡ cond (is_at (cmp q) k) (option_map (λ _. v) o) o
    untouched q Less o l e same none = rw e refl
    untouched q Greater o l e same none = rw e refl
    untouched q Equal o l e same none = let is = same e ∙ none in rw (e, is) refl

    pub replaced_gap : (es seen : List (K × V)) (i : ℕ) (q : K) → es ≡ seen → IsGapAt cmp k seen i → IsStrictlySortedBy cmp (keys_of es)
        → lookup (is_at (cmp q)) seen ≡ cond (is_at (cmp q) k) (option_map (λ _. v) (lookup (is_at (cmp q)) seen)) (lookup (is_at (cmp q)) seen)
    replaced_gap es seen i q view is sorted =
        let none = value_gap cmp total k seen i (subst (λ xs. IsStrictlySortedBy cmp (keys_of xs)) view sorted) is in
        untouched q (cmp q k) (lookup (is_at (cmp q)) seen) (lookup (is_at (cmp k)) seen) refl (same_place q seen) none

-- once a key is taken away it has no value, and every other key what it had
pub value_without : {K V : Type 0} (cmp : K → K → Ordering) (total : IsTotalOrder cmp) (k : K) (es seen fresh : List (K × V)) (q : K) → es ≡ seen → fresh ≡ remove_entry (is_at (cmp k)) seen
    → IsStrictlySortedBy cmp (keys_of es) → lookup (is_at (cmp q)) fresh ≡ cond (is_at (cmp q) k) None (lookup (is_at (cmp q)) seen)
value_without cmp total k es seen fresh q view gone sorted =
    let laws = eq_by_cmp_equiv total in
    let distinct = IsDistinct-from_sorted cmp (keys_of seen) (subst (λ xs. IsStrictlySortedBy cmp (keys_of xs)) view sorted) in
    ap (lookup (is_at (cmp q))) gone
    ∙ lookup-remove_entry laws (is_at (cmp k)) (λ x y at. laws.congr k x y at) q seen distinct
    ∙ ap (λ b. cond b None (lookup (is_at (cmp q)) seen)) (laws.symm k q)

-- what is below a limit

below_is : (limit : ℕ) (o : Option ℕ) → option_filter (λ n. nat_lt n limit) o ≡ if_below limit o
below_is limit None = refl
below_is limit (Some n) = refl

pub values_below : {K : Type 0} (cmp : K → K → Ordering) (total : IsTotalOrder cmp) (limit : ℕ) (es seen fresh : List (K × ℕ)) (q : K) → es ≡ seen → fresh ≡ filter (λ e. nat_lt e.1 limit) es → IsStrictlySortedBy cmp (keys_of es)
    → lookup (is_at (cmp q)) fresh ≡ if_below limit (lookup (is_at (cmp q)) seen)
values_below cmp total limit es seen fresh q view is sorted =
    ap (lookup (is_at (cmp q))) is
    ∙ lookup-filter-values (eq_by_cmp_equiv total) (λ n. nat_lt n limit) q es (IsDistinct-from_sorted cmp (keys_of es) sorted)
    ∙ below_is limit (lookup (is_at (cmp q)) es)
    ∙ ap (λ xs. if_below limit (lookup (is_at (cmp q)) xs)) view

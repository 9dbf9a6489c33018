-- What a search finds among entries in rising order of their keys, and what an edit at that place does.
use Rattle.std.proofs.Common.{◌≡◌, refl, sym, ap, ◌∙◌, subst, ℕ, zero, suc, ◌<◌, ◌≤◌, Bool, true, false, cond, List, [], ◌∷◌, length, get_or, set, Option, Some, None, Result, Ok, Err, IfOk, IfErr, arith, Ordering, Less, Equal, Greater}
use Rattle.std.specs.Ordering.{ordering_index, ordering_reverse, match_ordering}
use Rattle.std.specs.Cmp.{IsTotalOrder}
use Rattle.std.specs.List.{AllByRecursion, insert, remove}
use Rattle.std.specs.List.Sorted.{IsStrictlySortedBy, IsNonDecreasingBy, IsBinarySearchResult, IsSearchInRange}
use Rattle.std.specs.Map.{lookup, keys_of, remove_entry}
use Rattle.std.specs.BTreeMap.{insert_entry, is_at}
use Rattle.std.proofs.lemmas.Cmp.{alike_right}
use Rattle.desk_io.specs.Sorted.{IsAbove, ComparesAt, IsFoundAt, IsGapAt}

at_most : (r : Ordering) → ordering_index r ≤ 2
at_most Less = omega arith
at_most Equal = omega arith
at_most Greater = omega arith

-- no keys rise
pub none_sorted : {K : Type 0} (cmp : K → K → Ordering) (ks : List K) → ks ≡ [] → IsStrictlySortedBy cmp ks
unfolding IsStrictlySortedBy
none_sorted cmp [] e = tt
none_sorted cmp (k ∷ ks) e = absurd cc

module _ {K : Type 0} (cmp : K → K → Ordering) (total : IsTotalOrder cmp) where
  -- the other way round
  back : (x y : K) (r : Ordering) → cmp x y ≡ r → cmp y x ≡ ordering_reverse r
  back x y r e = total.antisymm y x ∙ ap ordering_reverse e

  -- the higher of two keys compares no lower
  rises : (x y k : K) (r : Ordering) → cmp x y ≡ Less → cmp y k ≡ r → ordering_index (cmp x k) ≤ ordering_index r
  rises x y k Less below e = let same = total.trans x y k below e in rw same (omega arith)
  rises x y k Equal below e = let same = sym (alike_right total y k x e) ∙ below in rw same (omega arith)
  rises x y k Greater below e = at_most (cmp x k)

module _ {K V : Type 0} (cmp : K → K → Ordering) (total : IsTotalOrder cmp) where
  each_at : (P : K → Type 0) (es : List (K × V)) (j : ℕ) (d : K × V) → AllByRecursion P (keys_of es) → j < length es → P (get_or es j d).0
  each_at P [] j d all within = absurd (omega arith)
  each_at P (e ∷ es) zero d all within = all.0
  each_at P (e ∷ es) (suc j) d all within = each_at P es j d all.1 (omega arith)

  pub all_rise : (k : K) (es : List (K × V)) → IsStrictlySortedBy cmp (keys_of es) → IsNonDecreasingBy (λ e. ordering_index (cmp e.0 k)) es
  unfolding IsStrictlySortedBy
  all_rise k [] sorted i j d le within = absurd (omega arith)
  all_rise k (e ∷ es) sorted zero zero d le within = omega arith
  all_rise k (e ∷ es) sorted zero (suc j) d le within =
      rises cmp total e.0 (get_or es j d).0 k (cmp (get_or es j d).0 k) (each_at (λ y. cmp e.0 y ≡ Less) es j d sorted.0 (omega arith)) refl
  all_rise k (e ∷ es) sorted (suc i) zero d le within = absurd (omega arith)
  all_rise k (e ∷ es) sorted (suc i) (suc j) d le within = all_rise k es sorted.1 i j d (omega arith) (omega arith)

  module _ (k : K) where
    found_at : (es : List (K × V)) (i : ℕ) → IsStrictlySortedBy cmp (keys_of es) → i < length es → ((d : K × V) → cmp (get_or es i d).0 k ≡ Equal) → IsFoundAt cmp k es i
    unfolding IsStrictlySortedBy
    found_at [] i sorted within here = absurd (omega arith)
    found_at (e ∷ es) zero sorted within here = record { within = within; above = tt; here = back cmp total e.0 k Equal (here e) }
    found_at (e ∷ es) (suc i) sorted within here =
        let rest = found_at es i sorted.1 (omega arith) here in
        let below = each_at (λ y. cmp e.0 y ≡ Less) es i e sorted.0 (omega arith) in
        record { within = within; above = (back cmp total e.0 k Less (sym (alike_right total (get_or es i e).0 k e.0 (here e)) ∙ below), rest.above); here = rest.here }

    gap_at : (es : List (K × V)) (i : ℕ) → i ≤ length es → ((j : ℕ) (d : K × V) → j < i → cmp (get_or es j d).0 k ≡ Less)
        → ((j : ℕ) (d : K × V) → i ≤ j → j < length es → cmp (get_or es j d).0 k ≡ Greater) → IsGapAt cmp k es i
    gap_at [] zero within low high = record { within = within; above = tt; here = tt }
    gap_at [] (suc i) within low high = absurd (omega arith)
    gap_at (e ∷ es) zero within low high = record { within = within; above = tt; here = back cmp total e.0 k Greater (high 0 e (omega arith) (omega arith)) }
    gap_at (e ∷ es) (suc i) within low high =
        let rest = gap_at es i (omega arith) (λ j d below. low (suc j) d (omega arith)) (λ j d from under. high (suc j) d (omega arith) (omega arith)) in
        record { within = within; above = (back cmp total e.0 k Less (low 0 e (omega arith)), rest.above); here = rest.here }

    -- what a binary search answers
    pub searched : (es : List (K × V)) (r : Result ℕ ℕ) → IsStrictlySortedBy cmp (keys_of es) → IsSearchInRange r (length es) → IsBinarySearchResult (λ e. cmp e.0 k) es r
        → IfOk r (IsFoundAt cmp k es) × IfErr r (IsGapAt cmp k es)
    searched es (Ok i) sorted within is = (found_at es i sorted within is, tt)
    searched es (Err i) sorted within is =
        let parted = is (all_rise k es sorted) in
        (tt, gap_at es i within (λ j d below. parted.0 j d (omega arith) below) (λ j d from under. parted.1 j d from under))

    found_value : (es : List (K × V)) (i : ℕ) (d : K × V) → i < length es → IsAbove cmp k es i → ComparesAt cmp k es i Equal → lookup (is_at (cmp k)) es ≡ Some (get_or es i d).1
    found_value [] i d within above here = absurd (omega arith)
    found_value (e ∷ es) zero d within above here = rw here refl
    found_value (e ∷ es) (suc i) d within above here = rw above.0 (found_value es i d (omega arith) above.1 here)

    -- the value at a key that is there
    pub value_found : (es : List (K × V)) (i : ℕ) (d : K × V) → IsFoundAt cmp k es i → lookup (is_at (cmp k)) es ≡ Some (get_or es i d).1
    value_found es i d is = found_value es i d is.within is.above is.here

    none_after : (e : K) (es : List (K × V)) → cmp k e ≡ Less → AllByRecursion (λ y. cmp e y ≡ Less) (keys_of es) → lookup (is_at (cmp k)) es ≡ None
    none_after e [] low all = refl
    none_after e (f ∷ es) low all = let far = total.trans k e f.0 low all.0 in rw far (none_after e es low all.1)

    gap_value : (es : List (K × V)) (i : ℕ) → IsStrictlySortedBy cmp (keys_of es) → IsAbove cmp k es i → ComparesAt cmp k es i Less → lookup (is_at (cmp k)) es ≡ None
    unfolding IsStrictlySortedBy
    gap_value [] i sorted above here = refl
    gap_value (e ∷ es) zero sorted above here = rw here (none_after e.0 es here sorted.0)
    gap_value (e ∷ es) (suc i) sorted above here = rw above.0 (gap_value es i sorted.1 above.1 here)

    -- a key that isn't there has no value
    pub value_gap : (es : List (K × V)) (i : ℕ) → IsStrictlySortedBy cmp (keys_of es) → IsGapAt cmp k es i → lookup (is_at (cmp k)) es ≡ None
    value_gap es i sorted is = gap_value es i sorted is.above is.here

    -- what is found, of entries that are seen
    pub get_found : (es seen : List (K × V)) (i : ℕ) (e : K × V) → es ≡ seen → IsFoundAt cmp k seen i → e ≡ get_or es i e → Some e.1 ≡ lookup (is_at (cmp k)) seen
    get_found es seen i e view is at =
        let there = value_found es i e (subst (λ xs. IsFoundAt cmp k xs i) (sym view) is) in
        ap (λ (x : K × V). Some x.1) at ∙ sym there ∙ ap (λ xs. lookup (is_at (cmp k)) xs) view

    pub get_gap : (es seen : List (K × V)) (i : ℕ) → es ≡ seen → IsGapAt cmp k seen i → IsStrictlySortedBy cmp (keys_of es) → None ≡ lookup (is_at (cmp k)) seen
    get_gap es seen i view is sorted = sym (value_gap seen i (subst (λ xs. IsStrictlySortedBy cmp (keys_of xs)) view sorted) is)

    without : (es : List (K × V)) (i : ℕ) → i < length es → IsAbove cmp k es i → ComparesAt cmp k es i Equal → remove es i ≡ remove_entry (is_at (cmp k)) es
    without [] i within above here = absurd (omega arith)
    without (e ∷ es) zero within above here = rw here refl
    without (e ∷ es) (suc i) within above here = rw above.0 (ap (λ xs. e ∷ xs) (without es i (omega arith) above.1 here))

    -- a key that is there goes
    pub remove_found : (es seen fresh : List (K × V)) (i : ℕ) → es ≡ seen → IsFoundAt cmp k seen i → fresh ≡ remove es i → fresh ≡ remove_entry (is_at (cmp k)) seen
    remove_found es seen fresh i view is gone =
        let there = subst (λ xs. IsFoundAt cmp k xs i) (sym view) is in
        gone ∙ without es i there.within there.above there.here ∙ ap (remove_entry (is_at (cmp k))) view

    gone_none : (e : K) (es : List (K × V)) → cmp k e ≡ Less → AllByRecursion (λ y. cmp e y ≡ Less) (keys_of es) → remove_entry (is_at (cmp k)) es ≡ es
    gone_none e [] low all = refl
    gone_none e (f ∷ es) low all = let far = total.trans k e f.0 low all.0 in rw far (ap (λ xs. f ∷ xs) (gone_none e es low all.1))

    gap_stays : (es : List (K × V)) (i : ℕ) → IsStrictlySortedBy cmp (keys_of es) → IsAbove cmp k es i → ComparesAt cmp k es i Less → remove_entry (is_at (cmp k)) es ≡ es
    unfolding IsStrictlySortedBy
    gap_stays [] i sorted above here = refl
    gap_stays (e ∷ es) zero sorted above here = rw here (ap (λ xs. e ∷ xs) (gone_none e.0 es here sorted.0))
    gap_stays (e ∷ es) (suc i) sorted above here = rw above.0 (ap (λ xs. e ∷ xs) (gap_stays es i sorted.1 above.1 here))

    -- a key that isn't there leaves all
    pub remove_gap : (es seen : List (K × V)) (i : ℕ) → es ≡ seen → IsGapAt cmp k seen i → IsStrictlySortedBy cmp (keys_of es) → seen ≡ remove_entry (is_at (cmp k)) seen
    remove_gap es seen i view is sorted = sym (gap_stays seen i (subst (λ xs. IsStrictlySortedBy cmp (keys_of xs)) view sorted) is.above is.here)

    each_less : (P : K → Type 0) (es : List (K × V)) → AllByRecursion P (keys_of es) → AllByRecursion P (keys_of (remove_entry (is_at (cmp k)) es))
    each_less P [] all = tt
    each_less P (e ∷ es) all = by (is_at (cmp k) e.0) (each_less P es all.1)
      where
        by : (b : Bool) → AllByRecursion P (keys_of (remove_entry (is_at (cmp k)) es)) → AllByRecursion P (keys_of (cond b es (e ∷ remove_entry (is_at (cmp k)) es)))
        by true rest = all.1
        by false rest = (all.0, rest)

    less_sorted : (es : List (K × V)) → IsStrictlySortedBy cmp (keys_of es) → IsStrictlySortedBy cmp (keys_of (remove_entry (is_at (cmp k)) es))
    unfolding IsStrictlySortedBy
    less_sorted [] sorted = sorted
    less_sorted (e ∷ es) sorted = by (is_at (cmp k) e.0) (less_sorted es sorted.1)
      where
        by : (b : Bool) → IsStrictlySortedBy cmp (keys_of (remove_entry (is_at (cmp k)) es)) → IsStrictlySortedBy cmp (keys_of (cond b es (e ∷ remove_entry (is_at (cmp k)) es)))
        by true rest = sorted.1
        by false rest = (each_less (λ y. cmp e.0 y ≡ Less) es sorted.0, rest)

    -- the keys that are left rise
    pub sorted_without : (es seen fresh : List (K × V)) → es ≡ seen → fresh ≡ remove_entry (is_at (cmp k)) seen → IsStrictlySortedBy cmp (keys_of es) → IsStrictlySortedBy cmp (keys_of fresh)
    sorted_without es seen fresh view gone sorted =
        subst (λ xs. IsStrictlySortedBy cmp (keys_of xs)) (sym gone) (less_sorted seen (subst (λ xs. IsStrictlySortedBy cmp (keys_of xs)) view sorted))

    module _ (v : V) where
      over : (es : List (K × V)) (i : ℕ) (d : K × V) → i < length es → IsAbove cmp k es i → ComparesAt cmp k es i Equal → set es i ((get_or es i d).0, v) ≡ insert_entry cmp es k v
      over [] i d within above here = absurd (omega arith)
      over (e ∷ es) zero d within above here = rw here refl
      over (e ∷ es) (suc i) d within above here = rw above.0 (ap (λ xs. e ∷ xs) (over es i d (omega arith) above.1 here))

      -- another value at a key that is there
      pub set_found : (es : List (K × V)) (i : ℕ) (d : K × V) → IsFoundAt cmp k es i → set es i ((get_or es i d).0, v) ≡ insert_entry cmp es k v
      set_found es i d is = over es i d is.within is.above is.here

      between : (es : List (K × V)) (i : ℕ) → IsAbove cmp k es i → ComparesAt cmp k es i Less → insert es i (k, v) ≡ insert_entry cmp es k v
      between [] zero above here = refl
      between [] (suc i) above here = absurd above
      between (e ∷ es) zero above here = rw here refl
      between (e ∷ es) (suc i) above here = rw above.0 (ap (λ xs. e ∷ xs) (between es i above.1 here))

      -- a key that isn't there, put where it goes
      pub insert_gap : (es : List (K × V)) (i : ℕ) → IsGapAt cmp k es i → insert es i (k, v) ≡ insert_entry cmp es k v
      insert_gap es i is = between es i is.above is.here

      all_with : (P : K → Type 0) (es : List (K × V)) → P k → AllByRecursion P (keys_of es) → AllByRecursion P (keys_of (insert_entry cmp es k v))
      all_with P [] one all = (one, tt)
      all_with P (e ∷ es) one all = by (cmp k e.0) (all_with P es one all.1)
        where
          by : (r : Ordering) → AllByRecursion P (keys_of (insert_entry cmp es k v)) → AllByRecursion P (keys_of (match_ordering r ((k, v) ∷ e ∷ es) ((e.0, v) ∷ es) (e ∷ insert_entry cmp es k v)))
          by Less rest = (one, all)
          by Equal rest = all
          by Greater rest = (all.0, rest)

      below_all : (e : K) (ks : List K) → cmp k e ≡ Less → AllByRecursion (λ y. cmp e y ≡ Less) ks → AllByRecursion (λ y. cmp k y ≡ Less) ks
      below_all e [] low all = tt
      below_all e (y ∷ ks) low all = (total.trans k e y low all.0, below_all e ks low all.1)

      -- the keys still rise
      pub sorted_with : (es : List (K × V)) → IsStrictlySortedBy cmp (keys_of es) → IsStrictlySortedBy cmp (keys_of (insert_entry cmp es k v))
      unfolding IsStrictlySortedBy
      sorted_with [] sorted = (tt, tt)
      sorted_with (e ∷ es) sorted = by (cmp k e.0) refl (sorted_with es sorted.1)
        where
          by : (r : Ordering) → cmp k e.0 ≡ r → IsStrictlySortedBy cmp (keys_of (insert_entry cmp es k v)) → IsStrictlySortedBy cmp (keys_of (match_ordering r ((k, v) ∷ e ∷ es) ((e.0, v) ∷ es) (e ∷ insert_entry cmp es k v)))
          by Less low rest = ((low, below_all e.0 (keys_of es) low sorted.0), sorted)
          by Equal same rest = sorted
          by Greater high rest = (all_with (λ y. cmp e.0 y ≡ Less) es (back cmp total k e.0 Greater high) sorted.0, rest)

      first_of_two : (q : K) (e : K × V) (a : Ordering) (r : Option V) → cmp k e.0 ≡ Equal → cmp q k ≡ a → cmp q e.0 ≡ a
          → cond (is_at (cmp q) e.0) (Some v) r ≡ cond (is_at (cmp q) k) (Some v) (cond (is_at (cmp q) e.0) (Some e.1) r)
      first_of_two q e Less r same here there = rw (here, there) refl
      first_of_two q e Equal r same here there = rw (here, there) refl
      first_of_two q e Greater r same here there = rw (here, there) refl

      apart : (q : K) (e : K × V) (a b : Ordering) (r rest : Option V) → cmp k e.0 ≡ Greater → cmp q k ≡ a → cmp q e.0 ≡ b → rest ≡ cond (is_at (cmp q) k) (Some v) r
          → cond (is_at (cmp q) e.0) (Some e.1) rest ≡ cond (is_at (cmp q) k) (Some v) (cond (is_at (cmp q) e.0) (Some e.1) r)
      apart q e Equal Equal r rest high here there is = absurd (let same = total.congr q k e.0 here in cc)
      apart q e Equal Less r rest high here there is = rw (here, there) (rw here at is)
      apart q e Equal Greater r rest high here there is = rw (here, there) (rw here at is)
      apart q e Less b r rest high here there is = rw here (ap (cond (is_at (cmp q) e.0) (Some e.1)) (rw here at is))
      apart q e Greater b r rest high here there is = rw here (ap (cond (is_at (cmp q) e.0) (Some e.1)) (rw here at is))

      -- the key has the value, and every other key what it had
      pub value_with : (q : K) (es : List (K × V)) → lookup (is_at (cmp q)) (insert_entry cmp es k v) ≡ cond (is_at (cmp q) k) (Some v) (lookup (is_at (cmp q)) es)
      value_with q [] = refl
      value_with q (e ∷ es) = by (cmp k e.0) refl (value_with q es)
        where
          by : (r : Ordering) → cmp k e.0 ≡ r → lookup (is_at (cmp q)) (insert_entry cmp es k v) ≡ cond (is_at (cmp q) k) (Some v) (lookup (is_at (cmp q)) es)
              → lookup (is_at (cmp q)) (match_ordering r ((k, v) ∷ e ∷ es) ((e.0, v) ∷ es) (e ∷ insert_entry cmp es k v)) ≡ cond (is_at (cmp q) k) (Some v) (cond (is_at (cmp q) e.0) (Some e.1) (lookup (is_at (cmp q)) es))
          by Less low rest = refl
          by Equal same rest = first_of_two q e (cmp q k) (lookup (is_at (cmp q)) es) same refl (sym (alike_right total k e.0 q same))
          by Greater high rest = apart q e (cmp q k) (cmp q e.0) (lookup (is_at (cmp q)) es) (lookup (is_at (cmp q)) (insert_entry cmp es k v)) high refl refl rest

      -- what the two edits come to, of entries that are seen
      pub put_found : (es seen : List (K × V)) (i : ℕ) (e : K × V) → es ≡ seen → IsFoundAt cmp k seen i → e ≡ get_or es i e → set es i (e.0, v) ≡ insert_entry cmp seen k v
      put_found es seen i e view is at =
          ap (λ (x : K × V). set es i (x.0, v)) at ∙ set_found es i e (subst (λ xs. IsFoundAt cmp k xs i) (sym view) is) ∙ ap (λ xs. insert_entry cmp xs k v) view

      pub put_gap : (es seen fresh : List (K × V)) (i : ℕ) → es ≡ seen → IsGapAt cmp k seen i → fresh ≡ insert es i (k, v) → fresh ≡ insert_entry cmp seen k v
      put_gap es seen fresh i view is put =
          put ∙ insert_gap es i (subst (λ xs. IsGapAt cmp k xs i) (sym view) is) ∙ ap (λ xs. insert_entry cmp xs k v) view

      pub sorted_after : (es seen fresh : List (K × V)) → es ≡ seen → fresh ≡ insert_entry cmp seen k v → IsStrictlySortedBy cmp (keys_of es) → IsStrictlySortedBy cmp (keys_of fresh)
      sorted_after es seen fresh view put sorted =
          subst (λ xs. IsStrictlySortedBy cmp (keys_of xs)) (sym put) (sorted_with seen (subst (λ xs. IsStrictlySortedBy cmp (keys_of xs)) view sorted))

      pub value_after : (seen fresh : List (K × V)) (q : K) → fresh ≡ insert_entry cmp seen k v
          → lookup (is_at (cmp q)) fresh ≡ cond (is_at (cmp q) k) (Some v) (lookup (is_at (cmp q)) seen)
      value_after seen fresh q put = ap (λ xs. lookup (is_at (cmp q)) xs) put ∙ value_with q seen

-- Keys of reports, and of other things that have a number: which keys two marks have, a moment and a fingerprint, and which are left once things go.
use Rattle.std.proofs.Common.{◌≡◌, refl, sym, ap, ◌∙◌, subst, ℕ, ◌<◌, ◌==◌, Bool, true, false, cond, ◌&&◌, ◌||◌, List, [], ◌∷◌, filter, map, Some, Less, arith}
use Rattle.std.proofs.lemmas.Bool.Decides.{nat_tests}
use Rattle.std.proofs.lemmas.Map.Views.{any-filter_same}
use Rattle.std.proofs.lemmas.List.Kept.{IsStrictlySortedBy-filter}
use Rattle.std.specs.Ordering.{is_ge}
use Rattle.std.specs.List.{AllByRecursion, find, list_any}
use Rattle.std.specs.List.Sorted.{IsStrictlySortedBy}
use Rattle.std.specs.BTreeMap.{is_at}
use Rattle.desk_io.specs.ById.{has_id}
use Rattle.desk_io.proofs.ByIdLaws.{same, lower, higher, Above, Rise}
use Rattle.facts.specs.Index.{Key, key_order, is_under}
use Rattle.facts.proofs.KeyOrder.{at_key, same_keys, by_id, from_least, past}

both_or_less : (b c d : Bool) → (b ≡ true → c ≡ true) → (b && (c && d)) ≡ (b && d)
both_or_less false c d is = refl
both_or_less true c d is = let e = is refl in rw e refl

and_same : (b c d : Bool) → (b ≡ true → c ≡ d) → (b && c) ≡ (b && d)
and_same false c d is = refl
and_same true c d is = is refl

kept_step : (d c h a g : Bool) → (c ≡ true → d ≡ true) → (d ≡ true → (h ≡ false) × (a ≡ false) × (g ≡ false)) → (h && a) ≡ g → ((d || h) && (c || a)) ≡ (c || g)
kept_step true true h a g is alone rest = refl
kept_step true false h a g is alone rest = let no_more = alone refl in no_more.1 ∙ sym no_more.2
kept_step false true h a g is alone rest = absurd (let e = is refl in cc)
kept_step false false h a g is alone rest = rest

gone_step : (d c h a g : Bool) → (c ≡ true → d ≡ true) → (d ≡ true → (h ≡ false) × (a ≡ false) × (g ≡ false)) → (h && a) ≡ g → (h && (c || a)) ≡ g
gone_step true c h a g is alone rest = let no_more = alone refl in ap (λ b. b && (c || a)) no_more.0 ∙ sym no_more.2
gone_step false true h a g is alone rest = absurd (let e = is refl in cc)
gone_step false false h a g is alone rest = rest

known_same : (m n : ℕ) → (m == n) ≡ true → m ≡ n
known_same m n e = grind (arith, nat_tests)

module _ (minute mark : ℕ) where
  -- after a key that isn't under the moment and the fingerprint there are none that are
  pub none_past : (k : Key) (ks : List Key) → is_under minute mark k ≡ false → is_ge (key_order k (minute, mark, 0)) ≡ true → AllByRecursion (λ l. key_order k l ≡ Less) ks → filter (is_under minute mark) ks ≡ []
  none_past k [] other from less = refl
  none_past k (l ∷ ks) other from less =
      ap (λ b. cond b (l ∷ filter (is_under minute mark) ks) (filter (is_under minute mark) ks)) (past minute mark k l other from less.0) ∙ none_past k ks other from less.1

pub passing : (p : Key → Bool) (ks : List Key) → AllByRecursion (λ k. p k ≡ true) (filter p ks)
passing p [] = tt
passing p (k ∷ ks) = by (p k) refl (passing p ks)
  where
    by : (b : Bool) → p k ≡ b → AllByRecursion (λ k. p k ≡ true) (filter p ks) → AllByRecursion (λ k. p k ≡ true) (cond b (k ∷ filter p ks) (filter p ks))
    by true e rest = (e, rest)
    by false e rest = rest

pub each_filter : {T : Type 0} (P : T → Type 0) (p : T → Bool) (xs : List T) → AllByRecursion P xs → AllByRecursion P (filter p xs)
each_filter P p [] all = tt
each_filter P p (x ∷ xs) all = by (p x) (each_filter P p xs all.1)
  where
    by : (b : Bool) → AllByRecursion P (filter p xs) → AllByRecursion P (cond b (x ∷ filter p xs) (filter p xs))
    by true rest = (all.0, rest)
    by false rest = rest

module _ {T : Type 0} (id_of : T → ℕ) where
  more_own : (x : T) (all xs : List T) → Above id_of (id_of x) xs → AllByRecursion (λ y. find (has_id id_of (id_of y)) all ≡ Some y) xs
      → AllByRecursion (λ y. find (has_id id_of (id_of y)) (x ∷ all) ≡ Some y) xs
  more_own x all [] above each = tt
  more_own x all (y ∷ xs) above each = (rw (lower (id_of x) (id_of y) above.0) each.0, more_own x all xs above.1 each.1)

  -- each thing is the one of its number
  pub own : (xs : List T) → Rise id_of xs → AllByRecursion (λ y. find (has_id id_of (id_of y)) xs ≡ Some y) xs
  own [] all = tt
  own (x ∷ xs) all = (rw (same (id_of x) (id_of x) refl) refl, more_own x xs xs all.0 (own xs all.1))

  none_of : (id : ℕ) (xs : List T) (p : T → Bool) → Above id_of id xs → list_any (has_id id_of id) (filter p xs) ≡ false
  none_of id [] p above = refl
  none_of id (x ∷ xs) p above = by (p x) (none_of id xs p above.1)
    where
      by : (b : Bool) → list_any (has_id id_of id) (filter p xs) ≡ false → list_any (has_id id_of id) (cond b (x ∷ filter p xs) (filter p xs)) ≡ false
      by true rest = rw (higher (id_of x) id above.0) rest
      by false rest = rest

  module _ (key_of : T → Key) (ends : (x : T) → (key_of x).2 ≡ id_of x) where
    pub any_mapped : (t : Key → Bool) (xs : List T) → list_any t (map key_of xs) ≡ list_any (λ x. t (key_of x)) xs
    any_mapped t [] = refl
    any_mapped t (x ∷ xs) = ap (λ b. t (key_of x) || b) (any_mapped t xs)

    module _ (minute mark : ℕ) where
      -- a thing whose key is under the moment and the fingerprint
      abbrev pub has_mark : T → Bool
      has_mark x = is_under minute mark (key_of x)

      low_under : (x : T) (xs : List T) → has_mark x ≡ true → Above id_of (id_of x) xs → AllByRecursion (λ y. key_order (key_of x) y ≡ Less) (map key_of (filter has_mark xs))
      low_under x [] is above = tt
      low_under x (y ∷ xs) is above = by (has_mark y) refl (low_under x xs is above.1)
        where
          by : (b : Bool) → has_mark y ≡ b → AllByRecursion (λ k. key_order (key_of x) k ≡ Less) (map key_of (filter has_mark xs))
              → AllByRecursion (λ k. key_order (key_of x) k ≡ Less) (map key_of (cond b (y ∷ filter has_mark xs) (filter has_mark xs)))
          by true e rest = (let one = ends x in let two = ends y in by_id minute mark (key_of x) (key_of y) is e (omega (arith, one, two, above.0)), rest)
          by false e rest = rest

      sorted_under : (xs : List T) → Rise id_of xs → IsStrictlySortedBy key_order (map key_of (filter has_mark xs))
      unfolding IsStrictlySortedBy
      sorted_under [] all = tt
      sorted_under (x ∷ xs) all = by (has_mark x) refl (sorted_under xs all.1)
        where
          by : (b : Bool) → has_mark x ≡ b → IsStrictlySortedBy key_order (map key_of (filter has_mark xs)) → IsStrictlySortedBy key_order (map key_of (cond b (x ∷ filter has_mark xs) (filter has_mark xs)))
          by true e rest = (low_under x xs e all.0, rest)
          by false e rest = rest

      -- the keys under a moment and a fingerprint are those of the things that have them
      pub keys_run : (xs : List T) (keys run : List Key) → Rise id_of xs
          → ((q : Key) → is_under minute mark q ≡ true → list_any (is_at (key_order q)) keys ≡ list_any (λ x. is_at (key_order q) (key_of x)) xs)
          → run ≡ filter (λ k. is_ge (key_order k (minute, mark, 0))) keys
          → IsStrictlySortedBy key_order run → filter (is_under minute mark) run ≡ map key_of (filter has_mark xs)
      keys_run xs keys run all is view rising =
          same_keys (filter (is_under minute mark) run) (map key_of (filter has_mark xs)) (IsStrictlySortedBy-filter key_order (is_under minute mark) run rising) (sorted_under xs all)
          (λ q.
          any-filter_same (is_at (key_order q)) (is_under minute mark) (is_under minute mark q) (λ k at. ap (is_under minute mark) (sym (at_key q k at))) run
          ∙ ap (λ ks. is_under minute mark q && list_any (is_at (key_order q)) ks) view
          ∙ ap (λ b. is_under minute mark q && b) (any-filter_same (is_at (key_order q)) (λ k. is_ge (key_order k (minute, mark, 0))) (is_ge (key_order q (minute, mark, 0)))
          (λ k at. ap (λ x. is_ge (key_order x (minute, mark, 0))) (sym (at_key q k at))) keys)
          ∙ both_or_less (is_under minute mark q) (is_ge (key_order q (minute, mark, 0))) (list_any (is_at (key_order q)) keys) (from_least minute mark q)
          ∙ and_same (is_under minute mark q) (list_any (is_at (key_order q)) keys) (list_any (λ x. is_at (key_order q) (key_of x)) xs) (is q)
          ∙ sym (any-filter_same (λ x. is_at (key_order q) (key_of x)) has_mark (is_under minute mark q) (λ x at. ap (is_under minute mark) (sym (at_key q (key_of x) at))) xs)
          ∙ sym (any_mapped (is_at (key_order q)) (filter has_mark xs)))

    -- ---- things that go

    no_key : (q : Key) (xs : List T) → Above id_of q.2 xs → list_any (λ x. is_at (key_order q) (key_of x)) xs ≡ false
    no_key q [] above = refl
    no_key q (x ∷ xs) above = by (is_at (key_order q) (key_of x)) refl (no_key q xs above.1)
      where
        by : (b : Bool) → is_at (key_order q) (key_of x) ≡ b → list_any (λ y. is_at (key_order q) (key_of y)) xs ≡ false
            → (is_at (key_order q) (key_of x) || list_any (λ y. is_at (key_order q) (key_of y)) xs) ≡ false
        by true e rest = let id = ap (λ (y : Key). y.2) (at_key q (key_of x) e) in let end = ends x in absurd (omega (arith, id, end, above.0))
        by false e rest = ap (λ b. b || list_any (λ y. is_at (key_order q) (key_of y)) xs) e ∙ rest

    module _ (p : T → Bool) (q : Key) where
      abbrev is_key : T → Bool
      is_key x = is_at (key_order q) (key_of x)

      its_id : (x : T) → is_key x ≡ true → (id_of x == q.2) ≡ true
      its_id x e = same (id_of x) q.2 (sym (ends x) ∙ sym (ap (λ (y : Key). y.2) (at_key q (key_of x) e)))

      -- no later one has the number
      alone : (x : T) (xs : List T) → Above id_of (id_of x) xs → (id_of x == q.2) ≡ true
          → (list_any (has_id id_of q.2) (filter p xs) ≡ false) × (list_any is_key xs ≡ false) × (list_any is_key (filter p xs) ≡ false)
      alone x xs above e =
          let high = subst (λ n. Above id_of n xs) (known_same (id_of x) q.2 e) above in
          (none_of q.2 xs p high, no_key q xs high, no_key q (filter p xs) (each_filter (λ (y : T). q.2 < id_of y) p xs high))

      -- of the things that stay there is one of a key where there was one, and one of its number stays
      pub leads : (xs : List T) → Rise id_of xs → (list_any (has_id id_of q.2) (filter p xs) && list_any is_key xs) ≡ list_any is_key (filter p xs)
      leads [] all = refl
      leads (x ∷ xs) all = by (p x) (leads xs all.1)
        where
          by : (b : Bool) → (list_any (has_id id_of q.2) (filter p xs) && list_any is_key xs) ≡ list_any is_key (filter p xs)
              → (list_any (has_id id_of q.2) (cond b (x ∷ filter p xs) (filter p xs)) && (is_key x || list_any is_key xs)) ≡ list_any is_key (cond b (x ∷ filter p xs) (filter p xs))
          by true rest =
              kept_step (id_of x == q.2) (is_key x) (list_any (has_id id_of q.2) (filter p xs)) (list_any is_key xs) (list_any is_key (filter p xs)) (its_id x) (alone x xs all.0) rest
          by false rest =
              gone_step (id_of x == q.2) (is_key x) (list_any (has_id id_of q.2) (filter p xs)) (list_any is_key xs) (list_any is_key (filter p xs)) (its_id x) (alone x xs all.0) rest

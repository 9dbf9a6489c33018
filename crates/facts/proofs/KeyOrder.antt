-- How keys compare: those of one moment and fingerprint stand together, in order of the numbers of their reports.
use Rattle.std.proofs.Common.{◌≡◌, refl, sym, ap, ◌∙◌, subst, ℕ, ◌<◌, ◌≤◌, ◌==◌, Bool, true, false, ◌&&◌, ◌||◌, ◌⊎◌, inl, inr, List, [], ◌∷◌, arith, Ordering, Less, Equal, Greater}
use Rattle.std.proofs.lemmas.Bool.Decides.{nat_tests}
use Rattle.std.proofs.lemmas.Cmp.{nat_cmp_total, on_total, then_total, tied_itself}
use Rattle.std.specs.Ordering.{nat_cmp, ordering_then, ordering_reverse, is_eq, is_ge, MatchOrdering}
use Rattle.std.specs.Cmp.{IsTotalOrder, ranks, nat_cmp_is}
use Rattle.std.specs.List.{AllByRecursion, list_any}
use Rattle.std.specs.List.Sorted.{IsStrictlySortedBy}
use Rattle.std.specs.BTreeMap.{is_at}
use Rattle.facts.specs.Index.{Key, key_order, is_under}

pub total : IsTotalOrder key_order
total = then_total (then_total (on_total (λ (k : Key). k.0) nat_cmp_total) (on_total (λ (k : Key). k.1) nat_cmp_total)) (on_total (λ (k : Key). k.2) nat_cmp_total)

-- ---- numbers

number_same : (a b : ℕ) → nat_cmp a b ≡ Equal → a ≡ b
number_same a b e = subst (λ o. MatchOrdering o (a < b) (a ≡ b) (b < a)) e (ranks a b)

equal_number : (a b : ℕ) → a ≡ b → nat_cmp a b ≡ Equal
equal_number a b e = sym (nat_cmp_is a b Equal e)

less_number : (a b : ℕ) → a < b → nat_cmp a b ≡ Less
less_number a b e = sym (nat_cmp_is a b Less e)

known_same : (a b : ℕ) → (a == b) ≡ true → a ≡ b
known_same a b e = grind (arith, nat_tests)

same_known : (a b : ℕ) → a ≡ b → (a == b) ≡ true
same_known a b e = grind (arith, nat_tests)

and_both : (a b : Bool) → (a && b) ≡ true → (a ≡ true) × (b ≡ true)
and_both true true e = (refl, refl)
and_both true false e = absurd cc
and_both false b e = absurd cc

-- ---- keys that are the same

then_equal : (r s : Ordering) → ordering_then r s ≡ Equal → (r ≡ Equal) × (s ≡ Equal)
then_equal Less s e = absurd cc
then_equal Equal s e = (refl, e)
then_equal Greater s e = absurd cc

key_same : (x y : Key) → key_order x y ≡ Equal → x ≡ y
key_same x y e =
    let ends = then_equal (ordering_then (nat_cmp x.0 y.0) (nat_cmp x.1 y.1)) (nat_cmp x.2 y.2) e in
    let front = then_equal (nat_cmp x.0 y.0) (nat_cmp x.1 y.1) ends.0 in
    λ i. (number_same x.0 y.0 front.0 i, number_same x.1 y.1 front.1 i, number_same x.2 y.2 ends.1 i)

is_equal : (o : Ordering) → is_eq o ≡ true → o ≡ Equal
is_equal Less e = absurd cc
is_equal Equal e = refl
is_equal Greater e = absurd cc

or_rest : (a b c : Bool) → a ≡ false → (a || b) ≡ (a || c) → b ≡ c
or_rest true b c e is = absurd cc
or_rest false b c e is = is

-- ---- keys that rise and have the same members are the same

module _ {K : Type 0} (cmp : K → K → Ordering) (order : IsTotalOrder cmp) (known : (x y : K) → cmp x y ≡ Equal → x ≡ y) where
  absent : (x : K) (ys : List K) → AllByRecursion (λ y. cmp x y ≡ Less) ys → list_any (is_at (cmp x)) ys ≡ false
  absent x [] all = refl
  absent x (y ∷ ys) all = rw all.0 (absent x ys all.1)

  here : (x : K) (xs : List K) → list_any (is_at (cmp x)) (x ∷ xs) ≡ true
  here x xs = rw (tied_itself order x) refl

  lower : (x y : K) (ys : List K) → cmp x y ≡ Less → AllByRecursion (λ z. cmp y z ≡ Less) ys → AllByRecursion (λ z. cmp x z ≡ Less) ys
  lower x y [] e all = tt
  lower x y (z ∷ ys) e all = (order.trans x y z e all.0, lower x y ys e all.1)

  rest_same : (x q : K) (xs ys : List K) (b : Bool) → is_at (cmp q) x ≡ b → AllByRecursion (λ y. cmp x y ≡ Less) xs → AllByRecursion (λ y. cmp x y ≡ Less) ys
      → (is_at (cmp q) x || list_any (is_at (cmp q)) xs) ≡ (is_at (cmp q) x || list_any (is_at (cmp q)) ys) → list_any (is_at (cmp q)) xs ≡ list_any (is_at (cmp q)) ys
  rest_same x q xs ys true e low high same =
      subst (λ z. list_any (is_at (cmp z)) xs ≡ list_any (is_at (cmp z)) ys) (sym (known q x (is_equal (cmp q x) e))) (absent x xs low ∙ sym (absent x ys high))
  rest_same x q xs ys false e low high same = or_rest (is_at (cmp q) x) (list_any (is_at (cmp q)) xs) (list_any (is_at (cmp q)) ys) e same

  same_members : (xs ys : List K) → IsStrictlySortedBy cmp xs → IsStrictlySortedBy cmp ys → ((q : K) → list_any (is_at (cmp q)) xs ≡ list_any (is_at (cmp q)) ys) → xs ≡ ys
  unfolding IsStrictlySortedBy
  same_members [] [] low high same = refl
  same_members [] (y ∷ ys) low high same = absurd (let h = same y ∙ here y ys in cc)
  same_members (x ∷ xs) [] low high same = absurd (let h = sym (same x) ∙ here x xs in cc)
  same_members (x ∷ xs) (y ∷ ys) low high same = by (cmp x y) refl (same_members xs ys low.1 high.1)
    where
      by : (r : Ordering) → cmp x y ≡ r → (((q : K) → list_any (is_at (cmp q)) xs ≡ list_any (is_at (cmp q)) ys) → xs ≡ ys) → x ∷ xs ≡ y ∷ ys
      by Less e more = absurd (let h = sym (same x) ∙ here x xs in let g = absent x (y ∷ ys) (e, lower x y ys e high.0) in cc)
      by Greater e more =
          let back = order.antisymm y x ∙ ap ordering_reverse e in
          absurd (let h = same y ∙ here y ys in let g = absent y (x ∷ xs) (back, lower y x xs back low.0) in cc)
      by Equal e more =
          let is = known x y e in
          let above = subst (λ z. AllByRecursion (λ t. cmp z t ≡ Less) ys) (sym is) high.0 in
          let rest = more (λ q. rest_same x q xs ys (is_at (cmp q) x) refl low.0 above (same q ∙ ap (λ z. is_at (cmp q) z || list_any (is_at (cmp q)) ys) (sym is))) in
          λ i. is i ∷ rest i

pub at_key : (q k : Key) → is_at (key_order q) k ≡ true → q ≡ k
at_key q k e = key_same q k (is_equal (key_order q k) e)

pub same_keys : (xs ys : List Key) → IsStrictlySortedBy key_order xs → IsStrictlySortedBy key_order ys
    → ((q : Key) → list_any (is_at (key_order q)) xs ≡ list_any (is_at (key_order q)) ys) → xs ≡ ys
same_keys xs ys low high same = same_members key_order total key_same xs ys low high same

-- ---- the keys of one moment and fingerprint

module _ (minute mark : ℕ) where
  pub parts : (k : Key) → is_under minute mark k ≡ true → (k.0 ≡ minute) × (k.1 ≡ mark)
  parts k e = let both = and_both (k.0 == minute) (k.1 == mark) e in (known_same k.0 minute both.0, known_same k.1 mark both.1)

  under : (k : Key) → k.0 ≡ minute → k.1 ≡ mark → is_under minute mark k ≡ true
  under k first second = rw (same_known k.0 minute first, same_known k.1 mark second) refl

  last_one : (r s t : Ordering) → r ≡ Equal → s ≡ Equal → ordering_then (ordering_then r s) t ≡ t
  last_one r s t one two = rw (one, two) refl

  -- they are in order of their ids
  pub by_id : (a b : Key) → is_under minute mark a ≡ true → is_under minute mark b ≡ true → a.2 < b.2 → key_order a b ≡ Less
  by_id a b one two less =
      let x = parts a one in
      let y = parts b two in
      last_one (nat_cmp a.0 b.0) (nat_cmp a.1 b.1) (nat_cmp a.2 b.2) (equal_number a.0 b.0 (x.0 ∙ sym y.0)) (equal_number a.1 b.1 (x.1 ∙ sym y.1)) ∙ less_number a.2 b.2 less

  no_lower : (n : ℕ) (r : Ordering) → MatchOrdering r (n < 0) (n ≡ 0) (0 < n) → is_ge r ≡ true
  no_lower n Less is = absurd (omega arith)
  no_lower n Equal is = refl
  no_lower n Greater is = refl

  -- they aren't below the one of the least id
  pub from_least : (k : Key) → is_under minute mark k ≡ true → is_ge (key_order k (minute, mark, 0)) ≡ true
  from_least k e =
      let is = parts k e in
      ap is_ge (last_one (nat_cmp k.0 minute) (nat_cmp k.1 mark) (nat_cmp k.2 0) (equal_number k.0 minute is.0) (equal_number k.1 mark is.1))
      ∙ no_lower k.2 (nat_cmp k.2 0) (ranks k.2 0)

  least_by : (a b c d : ℕ) (r s t : Ordering) → MatchOrdering r (a < b) (a ≡ b) (b < a) → MatchOrdering s (c < d) (c ≡ d) (d < c) → is_ge (ordering_then (ordering_then r s) t) ≡ true
      → (b < a) ⊎ ((a ≡ b) × (d ≤ c))
  least_by a b c d Less s t one two e = absurd cc
  least_by a b c d Equal Less t one two e = absurd cc
  least_by a b c d Equal Equal t one two e = inr (one, omega arith)
  least_by a b c d Equal Greater t one two e = inr (one, omega arith)
  least_by a b c d Greater s t one two e = inl one

  below_by : (a b c d : ℕ) (r s t : Ordering) → MatchOrdering r (a < b) (a ≡ b) (b < a) → MatchOrdering s (c < d) (c ≡ d) (d < c) → ordering_then (ordering_then r s) t ≡ Less
      → (a < b) ⊎ ((a ≡ b) × (c ≤ d))
  below_by a b c d Less s t one two e = inl one
  below_by a b c d Equal Less t one two e = inr (one, omega arith)
  below_by a b c d Equal Equal t one two e = inr (one, omega arith)
  below_by a b c d Equal Greater t one two e = absurd cc
  below_by a b c d Greater s t one two e = absurd cc

  between : (k l : Key) → (minute < k.0) ⊎ ((k.0 ≡ minute) × (mark ≤ k.1)) → (k.0 < l.0) ⊎ ((k.0 ≡ l.0) × (k.1 ≤ l.1)) → l.0 ≡ minute → l.1 ≡ mark → (k.0 ≡ minute) × (k.1 ≡ mark)
  between k l (inl a) (inl b) first second = absurd (omega arith)
  between k l (inl a) (inr b) first second = absurd (omega (arith, b.0))
  between k l (inr a) (inl b) first second = absurd (omega (arith, a.0))
  between k l (inr a) (inr b) first second = (a.0, omega (arith, a.1, b.1))

  -- after a later one there are none
  pub past : (k l : Key) → is_under minute mark k ≡ false → is_ge (key_order k (minute, mark, 0)) ≡ true → key_order k l ≡ Less → is_under minute mark l ≡ false
  past k l other from less = by (is_under minute mark l) refl
    where
      by : (b : Bool) → is_under minute mark l ≡ b → is_under minute mark l ≡ false
      by false e = e
      by true e =
          let is = parts l e in
          let low = least_by k.0 minute k.1 mark (nat_cmp k.0 minute) (nat_cmp k.1 mark) (nat_cmp k.2 0) (ranks k.0 minute) (ranks k.1 mark) from in
          let high = below_by k.0 l.0 k.1 l.1 (nat_cmp k.0 l.0) (nat_cmp k.1 l.1) (nat_cmp k.2 l.2) (ranks k.0 l.0) (ranks k.1 l.1) less in
          let there = between k l low high is.0 is.1 in
          absurd (let yes_it_is = under k there.0 there.1 in cc)

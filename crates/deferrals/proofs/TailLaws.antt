-- The open deferrals of an aircraft are those that the run of its number names.
use Rattle.std.proofs.Common.{◌≡◌, refl, sym, ap, ◌∙◌, subst, ℕ, suc, ◌<◌, ◌≤◌, Bool, true, false, cond, ◌&&◌, ◌||◌, ◌==◌, not, eqb, nat_lt, nat_le, List, [], ◌∷◌, ◌++◌, length, get_or, filter, map, position, Some, Less, Bor, arith, eqb-true, ltb-true, ltb-false}
use Rattle.std.specs.List.{AllByRecursion, list_any, remove}
use Rattle.std.specs.List.Sorted.{IsStrictlySortedBy}
use Rattle.std.specs.Map.{keys_of}
use Rattle.std.specs.BTreeMap.{is_at}
use Rattle.std.proofs.lemmas.Bool.{and_parts, ne_eqb}
use Rattle.std.proofs.lemmas.Bool.Decides.{nat_tests}
use Rattle.std.proofs.lemmas.List.{length-map}
use Rattle.std.proofs.lemmas.List.Elements.{recursion_from_All}
use Rattle.std.proofs.lemmas.List.Folds.{list_any-append}
use Rattle.std.proofs.lemmas.List.Quantifiers.{all_pairs_push, all_pairs_remove}
use Rattle.std.proofs.lemmas.List.Sums.{length-filter, count_by-le-length}
use Rattle.std.proofs.lemmas.Slice.Eq.{bytes_eq-Decides}
use Rattle.std.specs.Ordering.{is_eq}
use Rattle.std.proofs.lemmas.Cmp.{tied_itself}
use Rattle.desk_io.proofs.Each.{each_weaker}
use Rattle.desk_io.specs.Keys.{is_held, pair_cmp}
use Rattle.desk_io.specs.Sorted.{within}
use Rattle.desk_io.proofs.PairLaws.{pair_at, pair_total, within_first, second_below}
use Rattle.deferrals.specs.declared.items.Deferral.{Deferral}
use Rattle.deferrals.specs.Held.{AreRising, IsNewest, has_id, without}
use Rattle.deferrals.specs.Limits.{is_of, open_on}
use Rattle.deferrals.specs.ByTail.{tail_number, key_of, entry_of, AreKeysOf, open_as, open_by}
use Rattle.deferrals.proofs.Without.{only_one, its_id}

-- each is below all later ones, by recursion
abbrev pub Rise : List Deferral → Type 0
Rise [] = Unit {0}
Rise (d ∷ ds) = AllByRecursion (λ e. d.id < e.id) ds × Rise ds

pub rise_from : (ds : List Deferral) → AreRising ds → Rise ds
rise_from [] all = tt
rise_from (d ∷ ds) all = (
  recursion_from_All (λ e. d.id < e.id) ds (λ i e within. all 0 (suc i) e (omega arith) (omega (arith, within))),
  rise_from ds (λ i j e before within. all (suc i) (suc j) e (omega (arith, before)) (omega (arith, within))),
)

abbrev IdsRise : List (ℕ × ℕ) → Type 0
IdsRise [] = Unit {0}
IdsRise (k ∷ ks) = AllByRecursion (λ j. k.1 < j.1) ks × IdsRise ks

-- the deferral's id is that of a key
abbrev named : List (ℕ × ℕ) → Deferral → Bool
named ks d = list_any (λ k. d.id == k.1) ks

module _ (tail : List ℕ) where
  -- keys of later ids don't name it
  skipped : (d : Deferral) (ds : List Deferral) (ks : List (ℕ × ℕ)) → AllByRecursion (λ k. d.id < k.1) ks → (open_by tail (d ∷ ds) ks ≡ open_by tail ds ks) × (named ks d ≡ false)
  skipped d ds [] all = (refl, refl)
  skipped d ds (k ∷ ks) all =
      let rest = skipped d ds ks all.1 in
      let less = all.0 in
      let ne = ne_eqb d.id k.1 (λ e. absurd (omega (arith, e, less))) in
      (rw ne (ap (λ xs. open_as tail k.1 ds ++ xs) rest.0), rw ne rest.1)

  pub none_as : (id : ℕ) (ds : List Deferral) → AllByRecursion (λ e. id < e.id) ds → open_as tail id ds ≡ []
  none_as id [] all = refl
  none_as id (d ∷ ds) all = let less = all.0 in rw (ne_eqb d.id id (λ e. absurd (omega (arith, e, less)))) (none_as id ds all.1)

  named_first : (b : Bool) (d : Deferral) (found rest other : List Deferral) → other ≡ rest → cond b (d ∷ found) found ++ other ≡ cond (b && true) (d ∷ (found ++ rest)) (found ++ rest)
  named_first true d found rest other same = ap (λ xs. d ∷ (found ++ xs)) same
  named_first false d found rest other same = ap (λ xs. found ++ xs) same

  unnamed : (b n : Bool) (d : Deferral) (found rest : List Deferral) → n ≡ false → found ≡ rest → found ≡ cond (b && n) (d ∷ rest) rest
  unnamed true n d found rest e same = rw e same
  unnamed false n d found rest e same = same

  first : (d : Deferral) (ds : List Deferral) (ks : List (ℕ × ℕ)) → AllByRecursion (λ e. d.id < e.id) ds → IdsRise ks
      → open_by tail (d ∷ ds) ks ≡ cond (is_of tail d && named ks d) (d ∷ open_by tail ds ks) (open_by tail ds ks)
  first d ds [] above rising = unnamed (is_of tail d) false d [] [] refl refl
  first d ds (k ∷ ks) above rising = by (eqb d.id k.1) (nat_lt d.id k.1) refl refl (first d ds ks above rising.1)
    where
      by : (b c : Bool) → eqb d.id k.1 ≡ b → nat_lt d.id k.1 ≡ c
          → open_by tail (d ∷ ds) ks ≡ cond (is_of tail d && named ks d) (d ∷ open_by tail ds ks) (open_by tail ds ks)
          → open_by tail (d ∷ ds) (k ∷ ks) ≡ cond (is_of tail d && named (k ∷ ks) d) (d ∷ open_by tail ds (k ∷ ks)) (open_by tail ds (k ∷ ks))
      by true c e f rest =
          let same = eqb-true d.id k.1 e in
          let later = each_weaker (λ j. k.1 < j.1) (λ j. d.id < j.1) (λ j less. omega (arith, less, same)) ks rising.0 in
          rw e (named_first (is_of tail d) d (open_as tail k.1 ds) (open_by tail ds ks) (open_by tail (d ∷ ds) ks) (skipped d ds ks later).0)
      by false true e f rest =
          let less = ltb-true d.id k.1 f in
          let later = each_weaker (λ j. k.1 < j.1) (λ j. d.id < j.1) (λ j more. omega (arith, less, more)) ks rising.0 in
          let past = skipped d ds (k ∷ ks) (less, later) in
          unnamed (is_of tail d) (named (k ∷ ks) d) d (open_by tail (d ∷ ds) (k ∷ ks)) (open_by tail ds (k ∷ ks)) past.1 past.0
      by false false e f rest =
          let least = ltb-false d.id k.1 f in
          let none = none_as k.1 ds (each_weaker (λ x. d.id < x.id) (λ x. k.1 < x.id) (λ x more. omega (arith, least, more)) ds above) in
          rw (e, none) rest

  none_by : (ks : List (ℕ × ℕ)) → open_by tail [] ks ≡ []
  none_by [] = refl
  none_by (k ∷ ks) = none_by ks

  all_by : (ds : List Deferral) (ks : List (ℕ × ℕ)) → Rise ds → IdsRise ks → open_by tail ds ks ≡ filter (λ d. is_of tail d && named ks d) ds
  all_by [] ks rise rising = none_by ks
  all_by (d ∷ ds) ks rise rising = first d ds ks rise.0 rising ∙ ap (λ xs. cond (is_of tail d && named ks d) (d ∷ xs) xs) (all_by ds ks rise.1 rising)

  all_named : (ds : List Deferral) (ks : List (ℕ × ℕ)) → AllByRecursion (λ d. is_of tail d ≡ true → named ks d ≡ true) ds → filter (λ d. is_of tail d && named ks d) ds ≡ open_on tail ds
  all_named [] ks each = refl
  all_named (d ∷ ds) ks each = by (is_of tail d) refl (all_named ds ks each.1)
    where
      by : (b : Bool) → is_of tail d ≡ b → filter (λ e. is_of tail e && named ks e) ds ≡ open_on tail ds
          → cond (is_of tail d && named ks d) (d ∷ filter (λ e. is_of tail e && named ks e) ds) (filter (λ e. is_of tail e && named ks e) ds) ≡ cond (is_of tail d) (d ∷ open_on tail ds) (open_on tail ds)
      by true e rest = let is = each.0 e in rw (e, is) (ap (λ xs. d ∷ xs) rest)
      by false e rest = rw e rest

either : (b c : Bool) → c ≡ true → (b || c) ≡ true
either true c is = refl
either false c is = is

first_of : (b c : Bool) → b ≡ true → (b || c) ≡ true
first_of true c is = refl
first_of false c is = absurd cc

own_held : (ds : List Deferral) → AllByRecursion (λ d. list_any (λ e. is_at (pair_cmp (key_of d)) (key_of e)) ds ≡ true) ds
own_held [] = tt
own_held (d ∷ ds) = (
  first_of (is_at (pair_cmp (key_of d)) (key_of d)) (list_any (λ e. is_at (pair_cmp (key_of d)) (key_of e)) ds) (ap is_eq (tied_itself pair_total (key_of d))),
  each_weaker (λ e. list_any (λ x. is_at (pair_cmp (key_of e)) (key_of x)) ds ≡ true) (λ e. list_any (λ x. is_at (pair_cmp (key_of e)) (key_of x)) (d ∷ ds) ≡ true)
      (λ e held. either (is_at (pair_cmp (key_of e)) (key_of d)) (list_any (λ x. is_at (pair_cmp (key_of e)) (key_of x)) ds) held) ds (own_held ds),
)

-- the key of each is held
abbrev AreFound : List (ℕ × ℕ) → List Deferral → Type 0
AreFound keys ds = AllByRecursion (λ d. is_held pair_cmp (key_of d) keys ≡ true) ds

are_found : (keys : List (ℕ × ℕ)) (ds : List Deferral) → AreKeysOf ds keys → AreFound keys ds
are_found keys ds held =
    each_weaker (λ d. list_any (λ e. is_at (pair_cmp (key_of d)) (key_of e)) ds ≡ true) (λ d. is_held pair_cmp (key_of d) keys ≡ true) (λ d own. held.each (key_of d) ∙ own) ds (own_held ds)

module _ (n top : ℕ) where
  -- all of the run have that first number
  firsts : (keys : List (ℕ × ℕ)) → AllByRecursion (λ k. k.0 ≡ n) (filter (within pair_cmp (n, 0) (n, top)) keys)
  firsts [] = tt
  firsts (k ∷ keys) = by (within pair_cmp (n, 0) (n, top) k) refl (firsts keys)
    where
      by : (b : Bool) → within pair_cmp (n, 0) (n, top) k ≡ b → AllByRecursion (λ j. j.0 ≡ n) (filter (within pair_cmp (n, 0) (n, top)) keys)
          → AllByRecursion (λ j. j.0 ≡ n) (cond b (k ∷ filter (within pair_cmp (n, 0) (n, top)) keys) (filter (within pair_cmp (n, 0) (n, top)) keys))
      by true e rest = (eqb-true k.0 n (and_parts (k.0 == n) (nat_le k.1 top) (sym (within_first n top k) ∙ e)).0, rest)
      by false e rest = rest

  seconds : (k : ℕ × ℕ) (ks : List (ℕ × ℕ)) → k.0 ≡ n → AllByRecursion (λ y. pair_cmp k y ≡ Less) ks → AllByRecursion (λ j. j.0 ≡ n) ks → AllByRecursion (λ j. k.1 < j.1) ks
  seconds k [] is lows all = tt
  seconds k (y ∷ ks) is lows all = (second_below k y lows.0 (is ∙ sym all.0), seconds k ks is lows.1 all.1)

  -- and their ids rise
  ids_rise : (ks : List (ℕ × ℕ)) → IsStrictlySortedBy pair_cmp ks → AllByRecursion (λ k. k.0 ≡ n) ks → IdsRise ks
  unfolding IsStrictlySortedBy
  ids_rise [] sorted all = tt
  ids_rise (k ∷ ks) sorted all = (seconds k ks all.0 sorted.0 all.1, ids_rise ks sorted.1 all.1)

  -- a key that is held is in the run
  named_run : (d : Deferral) (keys : List (ℕ × ℕ)) → d.id ≤ top → is_held pair_cmp (n, d.id) keys ≡ true → named (filter (within pair_cmp (n, 0) (n, top)) keys) d ≡ true
  named_run d [] least held = absurd cc
  named_run d (k ∷ keys) least held = by (is_at (pair_cmp (n, d.id)) k) refl held (named_run d keys least)
    where
      there : is_at (pair_cmp (n, d.id)) k ≡ true → (within pair_cmp (n, 0) (n, top) k ≡ true) × ((d.id == k.1) ≡ true)
      there e =
          let both = and_parts (n == k.0) (d.id == k.1) (sym (pair_at (n, d.id) k) ∙ e) in
          let low = both.0 in
          let same = both.1 in
          (within_first n top k ∙ grind (arith, nat_tests, low, same, least), same)

      among : (b : Bool) (x : Bool) → named (filter (within pair_cmp (n, 0) (n, top)) keys) d ≡ true → named (cond b (k ∷ filter (within pair_cmp (n, 0) (n, top)) keys) (filter (within pair_cmp (n, 0) (n, top)) keys)) d ≡ true
      among true x rest = either (d.id == k.1) (named (filter (within pair_cmp (n, 0) (n, top)) keys) d) rest
      among false x rest = rest

      by : (b : Bool) → is_at (pair_cmp (n, d.id)) k ≡ b → (b || is_held pair_cmp (n, d.id) keys) ≡ true → (is_held pair_cmp (n, d.id) keys ≡ true → named (filter (within pair_cmp (n, 0) (n, top)) keys) d ≡ true)
          → named (cond (within pair_cmp (n, 0) (n, top) k) (k ∷ filter (within pair_cmp (n, 0) (n, top)) keys) (filter (within pair_cmp (n, 0) (n, top)) keys)) d ≡ true
      by true e h rest = let at = there e in rw (at.0, at.1) refl
      by false e h rest = among (within pair_cmp (n, 0) (n, top) k) true (rest h)

  each_named : (tail : List ℕ) (ds : List Deferral) (keys : List (ℕ × ℕ)) → n ≡ tail_number tail → AllByRecursion (λ d. d.id ≤ top) ds → AreFound keys ds
      → AllByRecursion (λ d. is_of tail d ≡ true → named (filter (within pair_cmp (n, 0) (n, top)) keys) d ≡ true) ds
  each_named tail [] keys is least found = tt
  each_named tail (d ∷ ds) keys is least found = (
    λ e. named_run d keys least.0 (ap (λ m. is_held pair_cmp (m, d.id) keys) (is ∙ ap tail_number (sym ((bytes_eq-Decides d.tail tail).0 e))) ∙ found.0),
    each_named tail ds keys is least.1 found.1,
  )

  -- the run names all open deferrals of the aircraft
  pub found_on : (tail : List ℕ) (ds : List Deferral) (keys ks : List (ℕ × ℕ)) → AreRising ds → n ≡ tail_number tail → AllByRecursion (λ d. d.id ≤ top) ds → AreKeysOf ds keys
      → IsStrictlySortedBy pair_cmp ks → ks ≡ filter (within pair_cmp (n, 0) (n, top)) keys → open_by tail ds ks ≡ open_on tail ds
  found_on tail ds keys ks rising is least found sorted run =
      all_by tail ds ks (rise_from ds rising) (ids_rise ks sorted (subst (λ xs. AllByRecursion (λ k. k.0 ≡ n) xs) (sym run) (firsts keys)))
      ∙ all_named tail ds ks (subst (λ xs. AllByRecursion (λ d. is_of tail d ≡ true → named xs d ≡ true) ds) (sym run) (each_named tail ds keys is least (are_found keys ds found)))

-- One more is put in, all are listed, or one is taken: the keys are still those of the deferrals.

last_first : (a b : Bool) → (a || b) ≡ (b || (a || false))
last_first true true = refl
last_first true false = refl
last_first false true = refl
last_first false false = refl

pub keys_pushed : (keys fresh : List (ℕ × ℕ)) (ds all : List Deferral) (d : Deferral) (k : ℕ × ℕ) → AreKeysOf ds keys
    → ((q : ℕ × ℕ) → is_held pair_cmp q fresh ≡ (is_at (pair_cmp q) k || is_held pair_cmp q keys)) → k ≡ key_of d → all ≡ ds ++ d ∷ [] → AreKeysOf all fresh
keys_pushed keys fresh ds all d k held put is pushed = subst (λ es. AreKeysOf es fresh) (sym pushed) (record {
  each = λ q.
      put q ∙ ap (λ b. is_at (pair_cmp q) k || b) (held.each q)
      ∙ ap (λ j. is_at (pair_cmp q) j || list_any (λ e. is_at (pair_cmp q) (key_of e)) ds) is
      ∙ last_first (is_at (pair_cmp q) (key_of d)) (list_any (λ e. is_at (pair_cmp q) (key_of e)) ds)
      ∙ sym (list_any-append (λ e. is_at (pair_cmp q) (key_of e)) ds (d ∷ []));
})

listed_held : (q : ℕ × ℕ) (ds : List Deferral) → is_held pair_cmp q (keys_of (map entry_of ds)) ≡ list_any (λ e. is_at (pair_cmp q) (key_of e)) ds
listed_held q [] = refl
listed_held q (d ∷ ds) = ap (λ b. is_at (pair_cmp q) (key_of d) || b) (listed_held q ds)

pub keys_listed : (keys : List (ℕ × ℕ)) (listed : List ((ℕ × ℕ) × Unit {0})) (ds : List Deferral) → listed ≡ map entry_of ds
    → ((q : ℕ × ℕ) → is_held pair_cmp q keys ≡ is_held pair_cmp q (keys_of listed)) → AreKeysOf ds keys
keys_listed keys listed ds is each = record { each = λ q. each q ∙ ap (λ es. is_held pair_cmp q (keys_of es)) is ∙ listed_held q ds }

none_and : (b c : Bool) → c ≡ false → (b && c) ≡ false
none_and true c e = e
none_and false c e = refl

its_key : (at c a w : Bool) → c ≡ at → (not at && a) ≡ w → (not at && (c || a)) ≡ w
its_key true c a w e rest = rest
its_key false c a w e rest = rw e rest

other_key : (at c a w : Bool) → (c ≡ true → at ≡ false) → (not at && a) ≡ w → (not at && (c || a)) ≡ (c || w)
other_key at true a w apart rest = rw (apart refl) refl
other_key at false a w apart rest = rest

module _ (q : ℕ × ℕ) (id : ℕ) (x : Deferral) (is_id : x.id ≡ id) where
  apart : (d : Deferral) → has_id id d ≡ false → is_at (pair_cmp q) (key_of d) ≡ true → is_at (pair_cmp q) (key_of x) ≡ false
  apart d e at =
      let same : q.1 ≡ d.id = eqb-true q.1 d.id (and_parts (q.0 == tail_number d.tail) (q.1 == d.id) (sym (pair_at q (key_of d)) ∙ at)).1 in
      pair_at q (key_of x) ∙ none_and (q.0 == tail_number x.tail) (q.1 == x.id) (ap (λ n. n == x.id) same ∙ ap (λ n. d.id == n) is_id ∙ e)

  others : (ds : List Deferral) → AllByRecursion (λ d. has_id id d ≡ true → d ≡ x) ds
      → (not (is_at (pair_cmp q) (key_of x)) && list_any (λ e. is_at (pair_cmp q) (key_of e)) ds) ≡ list_any (λ e. is_at (pair_cmp q) (key_of e)) (without id ds)
  others [] all = none_and (not (is_at (pair_cmp q) (key_of x))) false refl
  others (d ∷ ds) all = by (has_id id d) refl (others ds all.1)
    where
      by : (b : Bool) → has_id id d ≡ b
          → (not (is_at (pair_cmp q) (key_of x)) && list_any (λ e. is_at (pair_cmp q) (key_of e)) ds) ≡ list_any (λ e. is_at (pair_cmp q) (key_of e)) (without id ds)
          → (not (is_at (pair_cmp q) (key_of x)) && (is_at (pair_cmp q) (key_of d) || list_any (λ e. is_at (pair_cmp q) (key_of e)) ds))
          ≡ list_any (λ e. is_at (pair_cmp q) (key_of e)) (cond (not b) (d ∷ without id ds) (without id ds))
      by true e rest =
          its_key (is_at (pair_cmp q) (key_of x)) (is_at (pair_cmp q) (key_of d)) (list_any (λ y. is_at (pair_cmp q) (key_of y)) ds) (list_any (λ y. is_at (pair_cmp q) (key_of y)) (without id ds))
          (ap (λ y. is_at (pair_cmp q) (key_of y)) (all.0 e)) rest
      by false e rest =
          other_key (is_at (pair_cmp q) (key_of x)) (is_at (pair_cmp q) (key_of d)) (list_any (λ y. is_at (pair_cmp q) (key_of y)) ds) (list_any (λ y. is_at (pair_cmp q) (key_of y)) (without id ds))
          (apart d e) rest

pub keys_taken : (keys fresh : List (ℕ × ℕ)) (ds left : List Deferral) (id i : ℕ) (x : Deferral) (k : ℕ × ℕ) → AreRising ds → position (has_id id) ds ≡ Some i → get_or ds i x ≡ x → k ≡ key_of x → AreKeysOf ds keys
    → ((q : ℕ × ℕ) → is_held pair_cmp q fresh ≡ (not (is_at (pair_cmp q) k) && is_held pair_cmp q keys)) → left ≡ without id ds → AreKeysOf left fresh
keys_taken keys fresh ds left id i x k rising at is of_it held each gone = subst (λ es. AreKeysOf es fresh) (sym gone) (record {
  each = λ q.
      each q ∙ ap (λ j. not (is_at (pair_cmp q) j) && is_held pair_cmp q keys) of_it
      ∙ ap (λ b. not (is_at (pair_cmp q) (key_of x)) && b) (held.each q)
      ∙ others q id x (its_id id ds i x at is) ds (recursion_from_All (λ d. has_id id d ≡ true → d ≡ x) ds (only_one id ds i x rising at is));
})

pub no_keys : (ds : List Deferral) (keys : List (ℕ × ℕ)) → ds ≡ [] → keys ≡ [] → AreKeysOf ds keys
no_keys ds keys none empty = record { each = λ q. ap (list_any (is_at (pair_cmp q))) empty ∙ sym (ap (list_any (λ e. is_at (pair_cmp q) (key_of e))) none) }

-- ids still rise with a newer one at the end, and without one
pub rising_pushed : (ds seen all : List Deferral) (d : Deferral) → AreRising ds → ds ≡ seen → IsNewest d.id seen → all ≡ ds ++ d ∷ [] → AreRising all
rising_pushed ds seen all d rising view newest pushed =
    subst AreRising (sym pushed) (all_pairs_push (λ earlier later. earlier.id < later.id) ds d rising (subst (IsNewest d.id) (sym view) newest))

pub rising_removed : (ds left : List Deferral) (place : ℕ) → AreRising ds → place < length ds → left ≡ remove ds place → AreRising left
rising_removed ds left place rising within gone = subst AreRising (sym gone) (all_pairs_remove (λ earlier later. earlier.id < later.id) ds place within rising)

-- no more are open on an aircraft than there are
pub open_count : (tail : List ℕ) (some : List (Bor Deferral)) (ds : List Deferral) → map (λ d. d.now) some ≡ open_on tail ds → length some ≤ length ds
open_count tail some ds is =
    let same = sym (length-map some (λ (d : Bor Deferral). d.now)) ∙ ap length is ∙ length-filter (is_of tail) ds in
    let few = count_by-le-length (is_of tail) ds in
    omega (arith, same, few)

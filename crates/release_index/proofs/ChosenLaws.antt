-- The keys of a run that lead to releases which something touches: their ids are those of the releases that it touches.
use Rattle.std.proofs.Common.{◌≡◌, refl, sym, ap, ◌∙◌, subst, ℕ, ◌+◌, ◌≤◌, ◌==◌, arith, Bool, true, false, ◌&&◌, ◌||◌, cond, List, [], ◌∷◌, ◌++◌, length, length-append, filter, Option, None, Some, find, Less, eqb-true, eq-eqb}
use Rattle.std.specs.List.{list_any, AllByRecursion}
use Rattle.std.specs.List.Sorted.{IsStrictlySortedBy}
use Rattle.std.specs.BTreeMap.{is_at}
use Rattle.std.proofs.lemmas.Bool.{and_parts}
use Rattle.std.proofs.lemmas.List.Folds.{list_any-append}
use Rattle.facts.specs.Index.{key_cmp}
use Rattle.plan.specs.declared.release.Release.{Release}
use Rattle.desk_io.specs.Keys.{is_held}
use Rattle.desk_io.proofs.ByIdLaws.{Rise, Above, higher}
use Rattle.desk_io.proofs.KeyRunLaws.{filtered_twice}
use Rattle.release_index.specs.Changes.{has_id, release_at}
use Rattle.release_index.specs.Chosen.{found_where, chosen_onto}
use Rattle.release_index.specs.Index.{IsIndexOf}
use Rattle.release_index.specs.Touched.{held_where, is_among}
use Rattle.release_index.proofs.BoolLaws.{or_left, or_right, both_true, alike, any_some, any_weaker, any_filter, found_passes, found_each, found_any}
use Rattle.release_index.proofs.ChangeLaws.{id_of}
use Rattle.release_index.proofs.PairLaws.{tied, not_below_itself}
use Rattle.release_index.proofs.SetLaws.{or_none}

-- Which ids are chosen, and how many.

module _ (test : ℕ × ℕ → Bool) where
  chosen_among : (ids : List ℕ) (keys : List (ℕ × ℕ)) (id : ℕ) → is_among (chosen_onto test ids keys) id ≡ (is_among ids id || list_any (λ k. test k && (k.1 == id)) keys)
  chosen_among ids [] id = sym (or_none (is_among ids id))
  chosen_among ids (k ∷ keys) id = by (test k) (chosen_among (cond (test k) (ids ++ k.1 ∷ []) ids) keys id)
    where
      more : (a b c : Bool) → ((a || (b || false)) || c) ≡ (a || (b || c))
      more true b c = refl
      more false true c = refl
      more false false c = refl

      by : (b : Bool) → is_among (chosen_onto test (cond b (ids ++ k.1 ∷ []) ids) keys) id ≡ (is_among (cond b (ids ++ k.1 ∷ []) ids) id || list_any (λ j. test j && (j.1 == id)) keys)
          → is_among (chosen_onto test (cond b (ids ++ k.1 ∷ []) ids) keys) id ≡ (is_among ids id || ((b && (k.1 == id)) || list_any (λ j. test j && (j.1 == id)) keys))
      by true rest =
          rest ∙ ap (λ b. b || list_any (λ j. test j && (j.1 == id)) keys) (list_any-append (λ other. other == id) ids (k.1 ∷ []))
          ∙ more (is_among ids id) (k.1 == id) (list_any (λ j. test j && (j.1 == id)) keys)
      by false rest = rest

  chosen_length : (ids : List ℕ) (keys : List (ℕ × ℕ)) → length (chosen_onto test ids keys) ≡ length ids + length (filter test keys)
  chosen_length ids [] = omega arith
  chosen_length ids (k ∷ keys) = by (test k) (chosen_length (cond (test k) (ids ++ k.1 ∷ []) ids) keys)
    where
      by : (b : Bool) → length (chosen_onto test (cond b (ids ++ k.1 ∷ []) ids) keys) ≡ length (cond b (ids ++ k.1 ∷ []) ids) + length (filter test keys)
          → length (chosen_onto test (cond b (ids ++ k.1 ∷ []) ids) keys) ≡ length ids + length (cond b (k ∷ filter test keys) (filter test keys))
      by true rest = let longer = length-append ids (k.1 ∷ []) in omega (arith, rest, longer)
      by false rest = rest

-- How many of a list pass a test.

module _ {A : Type 0} where
  none_passes : (xs : List A) → length (filter (λ x. false) xs) ≤ 0
  none_passes [] = omega arith
  none_passes (x ∷ xs) = none_passes xs

  fewer : (p q : A → Bool) → ((x : A) → p x ≡ true → q x ≡ true) → (xs : List A) → length (filter p xs) ≤ length (filter q xs)
  fewer p q weaker [] = omega arith
  fewer p q weaker (x ∷ xs) = by (p x) (q x) refl refl (fewer p q weaker xs)
    where
      by : (b c : Bool) → p x ≡ b → q x ≡ c → length (filter p xs) ≤ length (filter q xs) → length (cond b (x ∷ filter p xs) (filter p xs)) ≤ length (cond c (x ∷ filter q xs) (filter q xs))
      by true true e f rest = omega (arith, rest)
      by true false e f rest = absurd (let is = weaker x e in cc)
      by false true e f rest = omega (arith, rest)
      by false false e f rest = rest

  either_counts : (p q : A → Bool) (xs : List A) → length (filter (λ x. p x || q x) xs) ≤ length (filter p xs) + length (filter q xs)
  either_counts p q [] = omega arith
  either_counts p q (x ∷ xs) = by (p x) (q x) (either_counts p q xs)
    where
      by : (b c : Bool) → length (filter (λ y. p y || q y) xs) ≤ length (filter p xs) + length (filter q xs)
          → length (cond (b || c) (x ∷ filter (λ y. p y || q y) xs) (filter (λ y. p y || q y) xs)) ≤ length (cond b (x ∷ filter p xs) (filter p xs)) + length (cond c (x ∷ filter q xs) (filter q xs))
      by true true rest = omega (arith, rest)
      by true false rest = omega (arith, rest)
      by false true rest = omega (arith, rest)
      by false false rest = rest

module _ (p : ℕ × ℕ → Bool) (same : (a b : ℕ × ℕ) → p a ≡ true → p b ≡ true → a ≡ b) where
  none_later : (k : ℕ × ℕ) (keys : List (ℕ × ℕ)) → p k ≡ true → AllByRecursion (λ j. key_cmp k j ≡ Less) keys → length (filter p keys) ≤ 0
  none_later k [] is all = omega arith
  none_later k (j ∷ keys) is all = by (p j) refl (none_later k keys is all.1)
    where
      by : (b : Bool) → p j ≡ b → length (filter p keys) ≤ 0 → length (cond b (j ∷ filter p keys) (filter p keys)) ≤ 0
      by true e rest = absurd (not_below_itself k j (same k j is e) all.0)
      by false e rest = rest

  -- of keys that are there once, one passes at most
  one_passes : (keys : List (ℕ × ℕ)) → IsStrictlySortedBy key_cmp keys → length (filter p keys) ≤ 1
  unfolding IsStrictlySortedBy
  one_passes [] sorted = omega arith
  one_passes (k ∷ keys) sorted = by (p k) refl (one_passes keys sorted.1)
    where
      by : (b : Bool) → p k ≡ b → length (filter p keys) ≤ 1 → length (cond b (k ∷ filter p keys) (filter p keys)) ≤ 1
      by true e rest = let none = none_later k keys e sorted.0 in omega (arith, none)
      by false e rest = rest

-- What is held of an id is the one that is found.

held_key : (k : ℕ × ℕ) (p : ℕ × ℕ → Bool) (keys : List (ℕ × ℕ)) → is_held key_cmp k keys ≡ true → p k ≡ true → list_any p keys ≡ true
held_key k p [] is passes = absurd cc
held_key k p (j ∷ keys) is passes = by (is_at (key_cmp k) j) refl is (λ later. held_key k p keys later passes)
  where
    by : (b : Bool) → is_at (key_cmp k) j ≡ b → (b || is_held key_cmp k keys) ≡ true → (is_held key_cmp k keys ≡ true → list_any p keys ≡ true) → (p j || list_any p keys) ≡ true
    by true e is rest = or_left (p j) (list_any p keys) (ap p (sym (tied k j e)) ∙ passes)
    by false e is rest = or_right (p j) (list_any p keys) (rest is)

found_some : (p u : Release → Bool) (rs : List Release) → found_where u (find p rs) ≡ true → list_any (λ r. p r && u r) rs ≡ true
found_some p u [] is = absurd cc
found_some p u (r ∷ rs) is = by (p r) is (found_some p u rs)
  where
    by : (b : Bool) → found_where u (cond b (Some r) (find p rs)) ≡ true → (found_where u (find p rs) ≡ true → list_any (λ x. p x && u x) rs ≡ true) → ((b && u r) || list_any (λ x. p x && u x) rs) ≡ true
    by true is rest = or_left (u r) (list_any (λ x. p x && u x) rs) is
    by false is rest = rest is

module _ (t : Release → Bool) (id : ℕ) where
  none_held : (rs : List Release) → Above id_of id rs → held_where t id rs ≡ false
  none_held [] all = refl
  none_held (r ∷ rs) all = rw (higher r.id id all.0) (none_held rs all.1)

  found_held : (rs : List Release) → Rise id_of rs → held_where t id rs ≡ true → found_where t (release_at id rs) ≡ true
  found_held [] rising is = absurd cc
  found_held (r ∷ rs) rising is = by (r.id == id) refl is (found_held rs rising.1)
    where
      by : (b : Bool) → (r.id == id) ≡ b → ((b && t r) || held_where t id rs) ≡ true → (held_where t id rs ≡ true → found_where t (release_at id rs) ≡ true)
          → found_where t (cond b (Some r) (release_at id rs)) ≡ true
      by true e is rest =
          let none = none_held rs (subst (λ n. Above id_of n rs) (eqb-true r.id id e) rising.0) in
          sym (or_none (t r)) ∙ ap (λ b. t r || b) (sym none) ∙ is
      by false e is rest = rest is

-- a key of a release in a run that passes a test
pub record Leads (onto : List (ℕ × ℕ) → Release → List (ℕ × ℕ)) (run : ℕ × ℕ → Bool) (test : ℕ × ℕ → Release → Bool) (r : Release) : Type 0 where
  pub key : ℕ × ℕ
  pub named : key.1 ≡ r.id
  pub within : run key ≡ true
  pub passes : test key r ≡ true
  pub held : is_held key_cmp key (onto [] r) ≡ true

module _ (onto : List (ℕ × ℕ) → Release → List (ℕ × ℕ)) (run : ℕ × ℕ → Bool) (test : ℕ × ℕ → Release → Bool) (t : Release → Bool) (keys : List (ℕ × ℕ)) (list : List Release) where
  abbrev leads : ℕ × ℕ → Bool
  leads k = found_where (test k) (release_at k.1 list)

  -- a key of the run leads to what is touched
  abbrev pub IsSound : Type 0
  IsSound = (k : ℕ × ℕ) (r : Release) → run k ≡ true → test k r ≡ true → t r ≡ true

  module _ (sound : IsSound) where
    there : (id : ℕ) → list_any (λ k. run k && (leads k && (k.1 == id))) keys ≡ true → held_where t id list ≡ true
    there id is =
        let one = any_some (λ (k : ℕ × ℕ). run k && (leads k && (k.1 == id))) keys is in
        let k : ℕ × ℕ = one.0 in
        let in_run = and_parts (run k) (leads k && (k.1 == id)) one.1 in
        let both = and_parts (leads k) (k.1 == id) in_run.1 in
        let weaker : (r : Release) → (has_id k.1 r && test k r) ≡ true → (has_id k.1 r && t r) ≡ true = λ r e.
        let parts = and_parts (has_id k.1 r) (test k r) e in both_true (has_id k.1 r) (t r) parts.0 (sound k r in_run.0 parts.1) in
        subst (λ n. held_where t n list ≡ true) (eqb-true k.1 id both.1)
        (any_weaker (λ r. has_id k.1 r && test k r) (λ r. has_id k.1 r && t r) weaker list (found_some (has_id k.1) (test k) list both.0))

    module _ (index : IsIndexOf onto keys list) (rising : Rise id_of list) (complete : AllByRecursion (λ r. t r ≡ true → Leads onto run test r) list) where
      back : (id : ℕ) → held_where t id list ≡ true → list_any (λ k. run k && (leads k && (k.1 == id))) keys ≡ true
      back id is = by (release_at id list) refl (found_held t id list rising is)
        where
          by : (o : Option Release) → release_at id list ≡ o → found_where t o ≡ true → list_any (λ k. run k && (leads k && (k.1 == id))) keys ≡ true
          by None e touched = absurd cc
          by (Some r) e touched =
              let c = found_each (λ x. t x ≡ true → Leads onto run test x) (has_id id) list r complete e touched in
              let is_id : c.key.1 ≡ id = c.named ∙ eqb-true r.id id (found_passes (has_id id) list r e) in
              let held = index c.key ∙ found_any (has_id id) (λ x. is_held key_cmp c.key (onto [] x)) list r e c.held in
              let leads_to : leads c.key ≡ true = ap (λ n. found_where (test c.key) (release_at n list)) is_id ∙ ap (found_where (test c.key)) e ∙ c.passes in
              held_key c.key (λ k. run k && (leads k && (k.1 == id))) keys held
              (both_true (run c.key) (leads c.key && (c.key.1 == id)) c.within (both_true (leads c.key) (c.key.1 == id) leads_to (eq-eqb c.key.1 id is_id)))

      -- the ids that are added are those of the releases that are touched
      pub chosen_touched : (ids fresh : List ℕ) (some : List (ℕ × ℕ)) → some ≡ filter run keys → fresh ≡ chosen_onto leads ids some
          → (id : ℕ) → is_among fresh id ≡ (is_among ids id || held_where t id list)
      chosen_touched ids fresh some ran is id =
          ap (λ xs. is_among xs id) (is ∙ ap (chosen_onto leads ids) ran) ∙ chosen_among leads ids (filter run keys) id
          ∙ ap (λ b. is_among ids id || b)
          (any_filter run (λ k. leads k && (k.1 == id)) keys
          ∙ alike (list_any (λ k. run k && (leads k && (k.1 == id))) keys) (held_where t id list) (there id) (back id))

    -- a release has one key of the run that leads to it
    module _ (once : (r : Release) (a b : ℕ × ℕ) → run a ≡ true → a.1 ≡ r.id → test a r ≡ true → run b ≡ true → b.1 ≡ r.id → test b r ≡ true → a ≡ b) (sorted : IsStrictlySortedBy key_cmp keys) where
      abbrev meets : Release → ℕ × ℕ → Bool
      meets r k = run k && (has_id k.1 r && test k r)

      met_once : (r : Release) (a b : ℕ × ℕ) → meets r a ≡ true → meets r b ≡ true → a ≡ b
      met_once r a b one two =
          let first = and_parts (run a) (has_id a.1 r && test a r) one in
          let second = and_parts (run b) (has_id b.1 r && test b r) two in
          let more = and_parts (has_id a.1 r) (test a r) first.1 in
          let other = and_parts (has_id b.1 r) (test b r) second.1 in
          once r a b first.0 (sym (eqb-true r.id a.1 more.0)) more.1 second.0 (sym (eqb-true r.id b.1 other.0)) other.1

      at_most : (r : Release) → length (filter (meets r) keys) ≤ cond (t r) 1 0
      at_most r = by (t r) refl
        where
          by : (b : Bool) → t r ≡ b → length (filter (meets r) keys) ≤ cond b 1 0
          by true e = one_passes (meets r) (met_once r) keys sorted
          by false e =
              let never : (k : ℕ × ℕ) → meets r k ≡ true → false ≡ true = λ k is.
              let first = and_parts (run k) (has_id k.1 r && test k r) is in
              let more = and_parts (has_id k.1 r) (test k r) first.1 in
              sym e ∙ sound k r first.0 more.1 in
              let some = fewer (meets r) (λ k. false) never keys in
              let none = none_passes keys in
              omega (arith, some, none)

      counted : (rs : List Release) → length (filter (λ k. list_any (λ r. meets r k) rs) keys) ≤ length (filter t rs)
      counted [] = none_passes keys
      counted (r ∷ rs) = by (t r) (at_most r) (counted rs) (either_counts (meets r) (λ k. list_any (λ x. meets x k) rs) keys)
        where
          by : (b : Bool) → length (filter (meets r) keys) ≤ cond b 1 0 → length (filter (λ k. list_any (λ x. meets x k) rs) keys) ≤ length (filter t rs)
              → length (filter (λ k. meets r k || list_any (λ x. meets x k) rs) keys) ≤ length (filter (meets r) keys) + length (filter (λ k. list_any (λ x. meets x k) rs) keys)
              → length (filter (λ k. meets r k || list_any (λ x. meets x k) rs) keys) ≤ length (cond b (r ∷ filter t rs) (filter t rs))
          by true one rest both = omega (arith, one, rest, both)
          by false one rest both = omega (arith, one, rest, both)

      -- no more are added than are touched
      pub chosen_few : (ids fresh : List ℕ) (some : List (ℕ × ℕ)) → some ≡ filter run keys → fresh ≡ chosen_onto leads ids some
          → length fresh ≤ length ids + length (filter t list)
      chosen_few ids fresh some ran is =
          let met : (k : ℕ × ℕ) → (run k && leads k) ≡ true → list_any (λ r. meets r k) list ≡ true = λ k e.
          let parts = and_parts (run k) (leads k) e in
          any_weaker (λ r. has_id k.1 r && test k r) (λ r. meets r k) (λ r found. both_true (run k) (has_id k.1 r && test k r) parts.0 found) list (found_some (has_id k.1) (test k) list parts.1) in
          let long = ap length (is ∙ ap (chosen_onto leads ids) ran) ∙ chosen_length leads ids (filter run keys) in
          let twice = ap length (filtered_twice run leads keys) in
          let some_met = fewer (λ k. run k && leads k) (λ k. list_any (λ r. meets r k) list) met keys in
          let few = counted list in
          omega (arith, long, twice, some_met, few)

-- Sets of keys that change at a place: what keys they have, and what room.
use Rattle.std.proofs.Common.{◌≡◌, refl, sym, ap, ◌∙◌, subst, ℕ, zero, suc, ◌<◌, ◌≤◌, ◌+◌, Bool, true, false, ◌||◌, List, [], ◌∷◌, ◌++◌, length, filter, get_or, set, Option, None, Some, Result, Ok, Err, OnOk, arith}
use Rattle.std.specs.List.{AllByRecursion}
use Rattle.std.specs.BTreeMap.{is_at}
use Rattle.desk_io.specs.Keys.{KeySet, is_held}
use Rattle.kept_replies.specs.Index.{Key, key_cmp}
use Rattle.kept_replies.specs.ByPerson.{at_place, in_set, place_of, HasOne, HaveOneBut, HaveOne, IsChangedAt, IsPut, HasSameKeys, IsKept, AreKept}
use Rattle.facts.proofs.KeyOrder.{at_key}

pub changed_at : (R : KeySet Key → KeySet Key → Type 0) (ss : List (KeySet Key)) (i : ℕ) (s t : KeySet Key) → s ≡ get_or ss i s → i < length ss → R s t → IsChangedAt R i ss (set ss i t)
changed_at R [] i s t at within is = absurd (omega arith)
changed_at R (x ∷ xs) zero s t at within is = (subst (λ y. R y t) at is, refl)
changed_at R (x ∷ xs) (suc i) s t at within is = (refl, changed_at R xs i s t at (omega arith) is)

pub at_index : (ss : List (KeySet Key)) (i : ℕ) (s : KeySet Key) → s ≡ get_or ss i s → i < length ss → at_place ss i ≡ s.keys
at_index [] i s at within = absurd (omega arith)
at_index (x ∷ xs) zero s at within = ap (λ y. y.keys) (sym at)
at_index (x ∷ xs) (suc i) s at within = at_index xs i s at (omega arith)

pub changed_length : (R : KeySet Key → KeySet Key → Type 0) (i : ℕ) (ss ts : List (KeySet Key)) → IsChangedAt R i ss ts → length ts ≡ length ss
changed_length R i [] ts is = absurd is
changed_length R i (s ∷ ss) [] is = absurd is
changed_length R zero (s ∷ ss) (t ∷ ts) is = ap (λ xs. suc (length xs)) (sym is.1)
changed_length R (suc i) (s ∷ ss) (t ∷ ts) is = ap suc (changed_length R i ss ts is.1)

-- ---- room

pub room_at : (ss : List (KeySet Key)) (i : ℕ) (s : KeySet Key) → AllByRecursion HasOne ss → s ≡ get_or ss i s → i < length ss → HasOne s
room_at [] i s all at within = absurd (omega arith)
room_at (x ∷ xs) zero s all at within = subst HasOne (sym at) all.0
room_at (x ∷ xs) (suc i) s all at within = room_at xs i s all.1 at (omega arith)

-- the one that had none has room
filled : (ss : List (KeySet Key)) (i : ℕ) (t : KeySet Key) → HaveOneBut i ss → HasOne t → AllByRecursion HasOne (set ss i t)
filled [] i t have one = tt
filled (s ∷ ss) zero t have one = (one, have)
filled (s ∷ ss) (suc i) t have one = (have.0, filled ss i t have.1 one)

pub filled_ok : {A B : Type 0} (r : Result A B) (ss : List (KeySet Key)) (i : ℕ) (t : KeySet Key) → HaveOneBut i ss → OnOk r (1 ≤ t.room) → OnOk r (AllByRecursion HasOne (set ss i t))
filled_ok (Ok a) ss i t have one = filled ss i t have one
filled_ok (Err e) ss i t have one = tt

pub but_changed : (R : KeySet Key → KeySet Key → Type 0) (i : ℕ) (ss ts : List (KeySet Key)) → IsChangedAt R i ss ts → HaveOneBut i ss → HaveOneBut i ts
but_changed R i [] ts is have = absurd is
but_changed R i (s ∷ ss) [] is have = absurd is
but_changed R zero (s ∷ ss) (t ∷ ts) is have = subst (AllByRecursion HasOne) is.1 have
but_changed R (suc i) (s ∷ ss) (t ∷ ts) is have = (subst HasOne is.0 have.0, but_changed R i ss ts is.1 have.1)

pub but_here : (R : KeySet Key → KeySet Key → Type 0) (i : ℕ) (ss ts : List (KeySet Key)) → IsChangedAt R i ss ts → AllByRecursion HasOne ss → HaveOneBut i ts
but_here R i [] ts is all = absurd is
but_here R i (s ∷ ss) [] is all = absurd is
but_here R zero (s ∷ ss) (t ∷ ts) is all = subst (AllByRecursion HasOne) is.1 all.1
but_here R (suc i) (s ∷ ss) (t ∷ ts) is all = (subst HasOne is.0 all.0, but_here R i ss ts is.1 all.1)

-- ---- sets with the same keys

same_at : (i : ℕ) (ss ts : List (KeySet Key)) → IsChangedAt HasSameKeys i ss ts → (j : ℕ) → at_place ts j ≡ at_place ss j
same_at i [] ts is j = absurd is
same_at i (s ∷ ss) [] is j = absurd is
same_at zero (s ∷ ss) (t ∷ ts) is zero = is.0
same_at zero (s ∷ ss) (t ∷ ts) is (suc j) = ap (λ xs. at_place xs j) (sym is.1)
same_at (suc i) (s ∷ ss) (t ∷ ts) is zero = ap (λ x. x.keys) (sym is.0)
same_at (suc i) (s ∷ ss) (t ∷ ts) is (suc j) = same_at i ss ts is.1 j

pub same_in : (i : ℕ) (ss ts : List (KeySet Key)) → IsChangedAt HasSameKeys i ss ts → (o : Option ℕ) → in_set ts o ≡ in_set ss o
same_in i ss ts is None = refl
same_in i ss ts is (Some j) = same_at i ss ts is j

-- ---- one more key

put_here : (key : Key) (i : ℕ) (ss ts : List (KeySet Key)) → IsChangedAt (IsPut key) i ss ts → (q : Key) → is_held key_cmp q (at_place ts i) ≡ (is_at (key_cmp q) key || is_held key_cmp q (at_place ss i))
put_here key i [] ts is q = absurd is
put_here key i (s ∷ ss) [] is q = absurd is
put_here key zero (s ∷ ss) (t ∷ ts) is q = is.0.each q
put_here key (suc i) (s ∷ ss) (t ∷ ts) is q = put_here key i ss ts is.1 q

put_else : (key : Key) (i : ℕ) (ss ts : List (KeySet Key)) → IsChangedAt (IsPut key) i ss ts → (q : Key) → is_at (key_cmp q) key ≡ false → (j : ℕ) → is_held key_cmp q (at_place ts j) ≡ is_held key_cmp q (at_place ss j)
put_else key i [] ts is q other j = absurd is
put_else key i (s ∷ ss) [] is q other j = absurd is
put_else key zero (s ∷ ss) (t ∷ ts) is q other zero = is.0.each q ∙ ap (λ b. b || is_held key_cmp q s.keys) other
put_else key zero (s ∷ ss) (t ∷ ts) is q other (suc j) = ap (λ xs. is_held key_cmp q (at_place xs j)) (sym is.1)
put_else key (suc i) (s ∷ ss) (t ∷ ts) is q other zero = ap (λ x. is_held key_cmp q x.keys) (sym is.0)
put_else key (suc i) (s ∷ ss) (t ∷ ts) is q other (suc j) = put_else key i ss ts is.1 q other j

put_in : (key : Key) (i : ℕ) (ss ts : List (KeySet Key)) → IsChangedAt (IsPut key) i ss ts → (q : Key) (o : Option ℕ) (b : Bool) → is_at (key_cmp q) key ≡ b → (b ≡ true → o ≡ Some i)
    → is_held key_cmp q (in_set ts o) ≡ (b || is_held key_cmp q (in_set ss o))
put_in key i ss ts is q o true e at =
    let here = at refl in
    ap (λ p. is_held key_cmp q (in_set ts p)) here ∙ put_here key i ss ts is q ∙ ap (λ b. b || is_held key_cmp q (at_place ss i)) e
put_in key i ss ts is q None false e at = refl
put_in key i ss ts is q (Some j) false e at = put_else key i ss ts is q e j

-- the keys under each fingerprint once one came to the set of its own
pub put_under : (key : Key) (i : ℕ) (ss ts : List (KeySet Key)) (places : List (ℕ × ℕ)) (before : ℕ → List Key) → IsChangedAt (IsPut key) i ss ts → place_of places key.0 ≡ Some i
    → ((m : ℕ) → in_set ss (place_of places m) ≡ before m) → (q : Key) → is_held key_cmp q (in_set ts (place_of places q.0)) ≡ (is_at (key_cmp q) key || is_held key_cmp q (before q.0))
put_under key i ss ts places before is at same q =
    put_in key i ss ts is q (place_of places q.0) (is_at (key_cmp q) key) refl (λ e. ap (λ (x : Key). place_of places x.0) (at_key q key e) ∙ at)
    ∙ ap (λ ks. is_at (key_cmp q) key || is_held key_cmp q ks) (same q.0)

-- ---- one more set

at_end : (ss : List (KeySet Key)) (s : KeySet Key) → at_place (ss ++ s ∷ []) (length ss) ≡ s.keys
at_end [] s = refl
at_end (x ∷ xs) s = at_end xs s

at_before : (ss : List (KeySet Key)) (s : KeySet Key) (i : ℕ) → i < length ss → at_place (ss ++ s ∷ []) i ≡ at_place ss i
at_before [] s i within = absurd (omega arith)
at_before (x ∷ xs) s zero within = refl
at_before (x ∷ xs) s (suc i) within = at_before xs s i (omega arith)

pub added_last : (ss ts : List (KeySet Key)) (s : KeySet Key) (place : ℕ) → ts ≡ ss ++ s ∷ [] → place ≡ length ss → s.keys ≡ [] → at_place ts place ≡ []
added_last ss ts s place added at empty = ap (λ xs. at_place xs place) added ∙ ap (at_place (ss ++ s ∷ [])) at ∙ at_end ss s ∙ empty

pub added_same : (ss ts : List (KeySet Key)) (s : KeySet Key) → ts ≡ ss ++ s ∷ [] → (i : ℕ) → i < length ss → at_place ts i ≡ at_place ss i
added_same ss ts s added i within = ap (λ xs. at_place xs i) added ∙ at_before ss s i within

-- ---- fewer keys

-- the sets before a place have the keys that pass a test, the others are as they were
abbrev pub KeptTo : (Key → Bool) → ℕ → List (KeySet Key) → List (KeySet Key) → Type 0
KeptTo p zero ss ts = ss ≡ ts
KeptTo p (suc n) [] [] = Unit {0}
KeptTo p (suc n) [] (t ∷ ts) = ⊥
KeptTo p (suc n) (s ∷ ss) [] = ⊥
KeptTo p (suc n) (s ∷ ss) (t ∷ ts) = IsKept p s t × KeptTo p n ss ts

kept_first : (p : Key → Bool) (ss us : List (KeySet Key)) → IsChangedAt (IsKept p) zero ss us → KeptTo p (suc zero) ss us
kept_first p [] us is = absurd is
kept_first p (s ∷ ss) [] is = absurd is
kept_first p (s ∷ ss) (u ∷ us) is = is

kept_next : (p : Key → Bool) (n : ℕ) (ss ts us : List (KeySet Key)) → KeptTo p n ss ts → IsChangedAt (IsKept p) n ts us → KeptTo p (suc n) ss us
kept_next p zero ss ts us to is = kept_first p ss us (subst (λ xs. IsChangedAt (IsKept p) zero xs us) (sym to) is)
kept_next p (suc n) [] [] us to is = absurd is
kept_next p (suc n) [] (t ∷ ts) us to is = absurd to
kept_next p (suc n) (s ∷ ss) [] us to is = absurd is
kept_next p (suc n) (s ∷ ss) (t ∷ ts) [] to is = absurd is
kept_next p (suc n) (s ∷ ss) (t ∷ ts) (u ∷ us) to is = (subst (λ x. IsKept p s x) is.0 to.0, kept_next p n ss ts us to.1 is.1)

pub kept_more : (p : Key → Bool) (n : ℕ) (ss ts us : List (KeySet Key)) → KeptTo p n ss ts → IsChangedAt (IsKept p) n ts us → KeptTo p (n + 1) ss us
kept_more p n ss ts us to is = let more : suc n ≡ n + 1 = omega arith in subst (λ m. KeptTo p m ss us) more (kept_next p n ss ts us to is)

pub to_length : (p : Key → Bool) (n : ℕ) (ss ts : List (KeySet Key)) → KeptTo p n ss ts → length ts ≡ length ss
to_length p zero ss ts to = ap length (sym to)
to_length p (suc n) [] [] to = refl
to_length p (suc n) [] (t ∷ ts) to = absurd to
to_length p (suc n) (s ∷ ss) [] to = absurd to
to_length p (suc n) (s ∷ ss) (t ∷ ts) to = ap suc (to_length p n ss ts to.1)

pub kept_all : (p : Key → Bool) (n : ℕ) (ss ts : List (KeySet Key)) → KeptTo p n ss ts → length ss ≤ n → AreKept p ss ts
kept_all p zero [] [] to all = tt
kept_all p zero [] (t ∷ ts) to all = absurd (let e = ap length to in omega (arith, e))
kept_all p zero (s ∷ ss) ts to all = absurd (omega arith)
kept_all p (suc n) [] [] to all = tt
kept_all p (suc n) [] (t ∷ ts) to all = absurd to
kept_all p (suc n) (s ∷ ss) [] to all = absurd to
kept_all p (suc n) (s ∷ ss) (t ∷ ts) to all = (to.0, kept_all p n ss ts to.1 (omega arith))

pub kept_length : (p : Key → Bool) (ss ts : List (KeySet Key)) → AreKept p ss ts → length ts ≡ length ss
kept_length p [] [] is = refl
kept_length p [] (t ∷ ts) is = absurd is
kept_length p (s ∷ ss) [] is = absurd is
kept_length p (s ∷ ss) (t ∷ ts) is = ap suc (kept_length p ss ts is.1)

kept_at : (p : Key → Bool) (ss ts : List (KeySet Key)) → AreKept p ss ts → (j : ℕ) → at_place ts j ≡ filter p (at_place ss j)
kept_at p [] [] is j = refl
kept_at p [] (t ∷ ts) is j = absurd is
kept_at p (s ∷ ss) [] is j = absurd is
kept_at p (s ∷ ss) (t ∷ ts) is zero = is.0.keys
kept_at p (s ∷ ss) (t ∷ ts) is (suc j) = kept_at p ss ts is.1 j

pub kept_in : (p : Key → Bool) (ss ts : List (KeySet Key)) → AreKept p ss ts → (o : Option ℕ) → in_set ts o ≡ filter p (in_set ss o)
kept_in p ss ts is None = refl
kept_in p ss ts is (Some j) = kept_at p ss ts is j

all_kept : (p : Key → Bool) (ss ts : List (KeySet Key)) → AreKept p ss ts → AllByRecursion HasOne ss → AllByRecursion HasOne ts
all_kept p [] [] is all = tt
all_kept p [] (t ∷ ts) is all = absurd is
all_kept p (s ∷ ss) [] is all = absurd is
all_kept p (s ∷ ss) (t ∷ ts) is all = (let more = is.0.room in let one = all.0 in omega (arith, more, one), all_kept p ss ts is.1 all.1)

but_kept : (p : Key → Bool) (i : ℕ) (ss ts : List (KeySet Key)) → AreKept p ss ts → HaveOneBut i ss → HaveOneBut i ts
but_kept p i [] [] is have = tt
but_kept p i [] (t ∷ ts) is have = absurd is
but_kept p i (s ∷ ss) [] is have = absurd is
but_kept p zero (s ∷ ss) (t ∷ ts) is have = all_kept p ss ts is.1 have
but_kept p (suc i) (s ∷ ss) (t ∷ ts) is have = (let more = is.0.room in let one = have.0 in omega (arith, more, one), but_kept p i ss ts is.1 have.1)

pub have_kept : (p : Key → Bool) (last : Option ℕ) (ss ts : List (KeySet Key)) → AreKept p ss ts → HaveOne last ss → HaveOne last ts
have_kept p None ss ts is have = all_kept p ss ts is have
have_kept p (Some i) ss ts is have = but_kept p i ss ts is have

-- The keys of an object: which are there, and which aren't expected.
use Rattle.std.proofs.Common.{◌≡◌, ℕ, Bool, true, false, if◌then◌else◌, List, Option, None, Some, Ok, Ordering, Less, Equal, Greater, nat_cmp, is_eq, refl, sym, ap, ◌∙◌, subst, true≢false}
use Rattle.std.specs.Prelude.{is_some}
use Rattle.std.specs.Ordering.{is_gt, match_ordering}
use Rattle.std.specs.Cmp.Lexicographic.{slice_cmp}
use Rattle.std.proofs.lemmas.Map.Text.{is_eq-slice_cmp}
use Rattle.std.proofs.lemmas.Slice.Eq.{bytes_eq-Decides}
use Rattle.serde_json.specs.Data.{Data, null, boolean, number, string, array, object, Members, no_members, member}
use Rattle.serde_json.specs.Find.{get_member}
use Rattle.asks.specs.Plain.{IsBefore, AreInOrder}
use Rattle.desk_json.specs.declared.keys.Object.{Object}
use Rattle.desk_json.specs.Keys.{is_key, first_extra, no_extra, only_keys}
use Rattle.desk_json.specs.Calls.{HasOnly}

-- ---- members

pub same_key : (k l : List ℕ) → slice_cmp nat_cmp k l ≡ Equal → k ≡ l
same_key k l is = (bytes_eq-Decides k l).0 (sym (is_eq-slice_cmp k l) ∙ ap is_eq is)

found_in : (P : Type 0) (o : Ordering) (d : Data) (g : Option Data) → is_some (match_ordering o g (Some d) g) ≡ true → (o ≡ Equal → P) → (is_some g ≡ true → P) → P
found_in P Less d g some here later = later some
found_in P Equal d g some here later = here refl
found_in P Greater d g some here later = later some

-- what is found at a key stands first or later
pub found_among : (P : Type 0) (k l : List ℕ) (d : Data) (ms : Members) → is_some (get_member k (member l d ms)) ≡ true → (k ≡ l → P) → (is_some (get_member k ms) ≡ true → P) → P
found_among P k l d ms some here later = found_in P (slice_cmp nat_cmp k l) d (get_member k ms) some (λ is. here (same_key k l is)) later

found_first : (o : Ordering) (d : Data) (g : Option Data) → is_eq o ≡ true → is_some (match_ordering o g (Some d) g) ≡ true
found_first Less d g is = absurd (true≢false (sym is))
found_first Equal d g is = refl
found_first Greater d g is = absurd (true≢false (sym is))

found_later : (o : Ordering) (d : Data) (g : Option Data) → is_some g ≡ true → is_some (match_ordering o g (Some d) g) ≡ true
found_later Less d g some = some
found_later Equal d g some = refl
found_later Greater d g some = some

-- ---- keys that aren't expected

-- a member that isn't expected
abbrev pub IsMore : Object → Members → List ℕ → Type 0
IsMore o ms key = (is_some (get_member key ms) ≡ true) × (is_key o key ≡ false)

more_at : (b : Bool) (o : Object) (l key : List ℕ) (d : Data) (ms : Members) → is_key o l ≡ b → (first_extra o ms ≡ Some key → IsMore o ms key) → (if b then first_extra o ms else Some l) ≡ Some key
    → IsMore o (member l d ms) key
more_at true o l key d ms known next is = let more = next is in (found_later (slice_cmp nat_cmp key l) d (get_member key ms) more.0, more.1)
more_at false o l key d ms known next is =
    let same : l ≡ key = cc is in
    subst (IsMore o (member l d ms)) same (found_first (slice_cmp nat_cmp l l) d (get_member l ms) (is_eq-slice_cmp l l ∙ (bytes_eq-Decides l l).1 refl), known)

pub first_more : (o : Object) (ms : Members) (key : List ℕ) → first_extra o ms ≡ Some key → IsMore o ms key
first_more o no_members key is = absurd (cc is)
first_more o (member l d ms) key is = more_at (is_key o l) o l key d ms refl (first_more o ms key) is

none_at : (b : Bool) (o : Object) (k l : List ℕ) (d : Data) (ms : Members) → is_key o l ≡ b → (if b then first_extra o ms else Some l) ≡ None → is_some (get_member k (member l d ms)) ≡ true
    → (first_extra o ms ≡ None → is_some (get_member k ms) ≡ true → is_key o k ≡ true) → is_key o k ≡ true
none_at true o k l d ms known none some next = found_among (is_key o k ≡ true) k l d ms some (λ same. ap (is_key o) same ∙ known) (next none)
none_at false o k l d ms known none some next = absurd (cc none)

-- where there is none, each key is expected
none_more : (o : Object) (k : List ℕ) (ms : Members) → first_extra o ms ≡ None → is_some (get_member k ms) ≡ true → is_key o k ≡ true
none_more o k no_members none some = absurd (true≢false (sym some))
none_more o k (member l d ms) none some = none_at (is_key o l) o k l d ms refl none some (none_more o k ms)

-- ---- an object that has no other key

only_from : (o : Object) (ms : Members) (more : Option (List ℕ)) (u : Unit {0}) → first_extra o ms ≡ more → no_extra more ≡ Ok u → HasOnly (is_key o) (object ms)
only_from o ms None u first is = (refl, λ k some. none_more o k ms first some)
only_from o ms (Some key) u first is = absurd (cc is)

only_back : (o : Object) (ms : Members) (more : Option (List ℕ)) → first_extra o ms ≡ more → HasOnly (is_key o) (object ms) → no_extra more ≡ Ok tt
only_back o ms None first is = refl
only_back o ms (Some key) first is = let more = first_more o ms key first in absurd (true≢false (sym (is.1 key more.0) ∙ more.1))

pub only_found : (o : Object) (d : Data) (u : Unit {0}) → only_keys o d ≡ Ok u → HasOnly (is_key o) d
only_found o null u is = absurd (cc is)
only_found o (boolean b) u is = absurd (cc is)
only_found o (number n) u is = absurd (cc is)
only_found o (string t) u is = absurd (cc is)
only_found o (array ds) u is = absurd (cc is)
only_found o (object ms) u is = only_from o ms (first_extra o ms) u refl is

pub only_passed : (o : Object) (d : Data) → HasOnly (is_key o) d → only_keys o d ≡ Ok tt
only_passed o null is = absurd (true≢false (sym is.0))
only_passed o (boolean b) is = absurd (true≢false (sym is.0))
only_passed o (number n) is = absurd (true≢false (sym is.0))
only_passed o (string t) is = absurd (true≢false (sym is.0))
only_passed o (array ds) is = absurd (true≢false (sym is.0))
only_passed o (object ms) is = only_back o ms (first_extra o ms) refl is

-- ---- keys in order

-- what stands before all keys stands before each
before_each : (a k : List ℕ) (ms : Members) → IsBefore a ms → is_some (get_member k ms) ≡ true → slice_cmp nat_cmp a k ≡ Less
before_each a k no_members is some = absurd (true≢false (sym some))
before_each a k (member l d ms) is some =
    found_among (slice_cmp nat_cmp a k ≡ Less) k l d ms some (λ same. subst (λ q. slice_cmp nat_cmp a q ≡ Less) (sym same) is.0) (before_each a k ms is.1)

-- a first key that isn't after a key
abbrev pub IsUpTo : List ℕ → Option (List ℕ) → Type 0
IsUpTo k None = ⊥
IsUpTo k (Some first) = is_gt (slice_cmp nat_cmp first k) ≡ false

not_after : (o : Ordering) → is_eq o ≡ true → is_gt o ≡ false
not_after Less is = absurd (true≢false (sym is))
not_after Equal is = refl
not_after Greater is = absurd (true≢false (sym is))

pub same_place : (k : List ℕ) → is_gt (slice_cmp nat_cmp k k) ≡ false
same_place k = not_after (slice_cmp nat_cmp k k) (is_eq-slice_cmp k k ∙ (bytes_eq-Decides k k).1 refl)

up_to_at : (b : Bool) (o : Object) (k l : List ℕ) (d : Data) (ms : Members) → is_key o l ≡ b → is_some (get_member k (member l d ms)) ≡ true → IsBefore l ms → is_key o k ≡ false
    → (is_some (get_member k ms) ≡ true → IsUpTo k (first_extra o ms)) → IsUpTo k (if b then first_extra o ms else Some l)
up_to_at true o k l d ms known some before extra next =
    found_among (IsUpTo k (first_extra o ms)) k l d ms some (λ same. absurd (true≢false (sym known ∙ ap (is_key o) (sym same) ∙ extra))) next
up_to_at false o k l d ms known some before extra next =
    found_among (IsUpTo k (Some l)) k l d ms some (λ same. subst (λ q. is_gt (slice_cmp nat_cmp l q) ≡ false) (sym same) (same_place l)) (λ later. ap is_gt (before_each l k ms before later))

-- The first key more of an object isn't after any that it doesn't have.
pub first_least : (o : Object) (k : List ℕ) (ms : Members) → AreInOrder ms → is_some (get_member k ms) ≡ true → is_key o k ≡ false → IsUpTo k (first_extra o ms)
first_least o k no_members order some extra = absurd (true≢false (sym some))
first_least o k (member l d ms) order some extra = up_to_at (is_key o l) o k l d ms refl some order.0 extra (λ later. first_least o k ms order.1 later extra)

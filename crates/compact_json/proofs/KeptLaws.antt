-- What boxes keep, one box at a time.
use Rattle.std.proofs.Common.{◌≡◌, ℕ, zero, suc, ◌≤◌, List, [], ◌∷◌, length, refl, ap, ap₂, ◌∙◌, arith}
use Rattle.serde_json.specs.Data.{Data, Items, no_items, item, Members, no_members}
use Rattle.compact_json.specs.declared.boxes.Kind.{Kind}
use Rattle.compact_json.specs.Boxes.{kind_of, content, after}
use Rattle.compact_json.specs.Kept.{data_by, put_text, items_by, members_by, data_within, data_of, items_of, members_onto, members_of}
use Rattle.compact_json.proofs.BoxLaws.{content_shorter, after_shorter}

module _ (f g : List ℕ → Data) (most : ℕ) (same : (s : List ℕ) → length s ≤ most → f s ≡ g s) where
  items_same : (n m : ℕ) (bytes : List ℕ) → length bytes ≤ most → length bytes ≤ n → length bytes ≤ m → items_by f n bytes ≡ items_by g m bytes
  items_same zero zero bytes few one two = refl
  items_same zero (suc m) [] few one two = refl
  items_same zero (suc m) (b ∷ bs) few one two = absurd (omega (arith, one))
  items_same (suc n) zero [] few one two = refl
  items_same (suc n) zero (b ∷ bs) few one two = absurd (omega (arith, two))
  items_same (suc n) (suc m) [] few one two = refl
  items_same (suc n) (suc m) (b ∷ bs) few one two =
      let less = after_shorter (b ∷ bs) in
      ap₂ item (same (b ∷ bs) few) (items_same n m (after (b ∷ bs)) (omega (arith, few, less)) (omega (arith, one, less)) (omega (arith, two, less)))

  members_same : (n m : ℕ) (bytes : List ℕ) (found : Members) → length bytes ≤ most → length bytes ≤ n → length bytes ≤ m → members_by f n bytes found ≡ members_by g m bytes found
  members_same zero zero bytes found few one two = refl
  members_same zero (suc m) [] found few one two = refl
  members_same zero (suc m) (b ∷ bs) found few one two = absurd (omega (arith, one))
  members_same (suc n) zero [] found few one two = refl
  members_same (suc n) zero (b ∷ bs) found few one two = absurd (omega (arith, two))
  members_same (suc n) (suc m) [] found few one two = refl
  members_same (suc n) (suc m) (b ∷ bs) found few one two =
      let less = after_shorter (b ∷ bs) in
      let lesser = after_shorter (after (b ∷ bs)) in
      ap (λ d. members_by f n (after (after (b ∷ bs))) (put_text (content (b ∷ bs)) d found)) (same (after (b ∷ bs)) (omega (arith, few, less)))
      ∙ members_same n m (after (after (b ∷ bs))) _ (omega (arith, few, less, lesser)) (omega (arith, one, less, lesser)) (omega (arith, two, less, lesser))

both : (i j : Items) (ms ns : Members) (s : List ℕ) (k : Kind) → i ≡ j → ms ≡ ns → data_by (λ _. i) (λ _. ms) s k ≡ data_by (λ _. j) (λ _. ns) s k
both i j ms ns s k one two = ap₂ (λ a b. data_by (λ _. a) (λ _. b) s k) one two

-- the bound on the depth plays no part, where it is enough
same_within : (n m : ℕ) (bytes : List ℕ) → length bytes ≤ n → length bytes ≤ m → data_within n bytes ≡ data_within m bytes
unfolding data_within kind_of
same_within zero zero bytes one two = refl
same_within zero (suc m) [] one two = refl
same_within zero (suc m) (b ∷ bs) one two = absurd (omega (arith, one))
same_within (suc n) zero [] one two = refl
same_within (suc n) zero (b ∷ bs) one two = absurd (omega (arith, two))
same_within (suc n) (suc m) bytes one two =
    let s = content bytes in
    let less = content_shorter bytes in
    let low : length s ≤ n = omega (arith, less, one) in
    let high : length s ≤ m = omega (arith, less, two) in
    let each = λ (t : List ℕ) (few : length t ≤ length s). same_within n m t (omega (arith, few, low)) (omega (arith, few, high)) in
    both (items_by (data_within n) (length s) s) (items_by (data_within m) (length s) s)
    (members_by (data_within n) (length s) s no_members) (members_by (data_within m) (length s) s no_members) s (kind_of bytes)
    (items_same (data_within n) (data_within m) (length s) each (length s) (length s) s (omega arith) (omega arith) (omega arith))
    (members_same (data_within n) (data_within m) (length s) each (length s) (length s) s no_members (omega arith) (omega arith) (omega arith))

enough : (n : ℕ) (bytes : List ℕ) → length bytes ≤ n → data_within n bytes ≡ data_of bytes
unfolding data_of
enough n bytes few = same_within n (length bytes) bytes few (omega arith)

-- the data of a box, by its kind and its content
pub data_is : (bytes : List ℕ) → data_of bytes ≡ data_by items_of members_of (content bytes) (kind_of bytes)
unfolding data_of data_within items_of members_onto kind_of
data_is [] = refl
data_is (b ∷ bs) =
    let s = content (b ∷ bs) in
    let n = length bs in
    let less : length s ≤ n = omega (arith, content_shorter (b ∷ bs)) in
    let each = λ (t : List ℕ) (few : length t ≤ length s). enough n t (omega (arith, few, less)) in
    both (items_by (data_within n) (length s) s) (items_by data_of (length s) s)
    (members_by (data_within n) (length s) s no_members) (members_by data_of (length s) s no_members) s (kind_of (b ∷ bs))
    (items_same (data_within n) data_of (length s) each (length s) (length s) s (omega arith) (omega arith) (omega arith))
    (members_same (data_within n) data_of (length s) each (length s) (length s) s no_members (omega arith) (omega arith) (omega arith))

-- ---- one box more

pub items_none : items_of [] ≡ no_items
unfolding items_of
items_none = refl

pub items_more : (b : ℕ) (bs : List ℕ) → items_of (b ∷ bs) ≡ item (data_of (b ∷ bs)) (items_of (after (b ∷ bs)))
unfolding items_of
items_more b bs =
    ap (item (data_of (b ∷ bs))) (items_same data_of data_of (length bs) (λ s few. refl) (length bs) (length (after (b ∷ bs))) (after (b ∷ bs))
    (omega (arith, after_shorter (b ∷ bs))) (omega (arith, after_shorter (b ∷ bs))) (omega arith))

pub members_none : (found : Members) → members_onto [] found ≡ found
unfolding members_onto
members_none found = refl

pub members_more : (b : ℕ) (bs : List ℕ) (found : Members)
    → members_onto (b ∷ bs) found ≡ members_onto (after (after (b ∷ bs))) (put_text (content (b ∷ bs)) (data_of (after (b ∷ bs))) found)
unfolding members_onto
members_more b bs found =
    let less = after_shorter (b ∷ bs) in
    let lesser = after_shorter (after (b ∷ bs)) in
    let rest = after (after (b ∷ bs)) in
    members_same data_of data_of (length bs) (λ s few. refl) (length bs) (length rest) rest (put_text (content (b ∷ bs)) (data_of (after (b ∷ bs))) found)
    (omega (arith, less, lesser)) (omega (arith, less, lesser)) (omega arith)

-- ---- one box more, of bytes that aren't empty

pub items_next : (bytes : List ℕ) → 1 ≤ length bytes → items_of bytes ≡ item (data_of bytes) (items_of (after bytes))
items_next [] some = absurd (omega (arith, some))
items_next (b ∷ bs) some = items_more b bs

pub members_next : (bytes : List ℕ) (found : Members) → 1 ≤ length bytes
    → members_onto bytes found ≡ members_onto (after (after bytes)) (put_text (content bytes) (data_of (after bytes)) found)
members_next [] found some = absurd (omega (arith, some))
members_next (b ∷ bs) found some = members_more b bs found

pub items_empty : (bytes : List ℕ) → length bytes ≡ 0 → items_of bytes ≡ no_items
items_empty [] is = items_none
items_empty (b ∷ bs) is = absurd (omega (arith, is))

pub members_empty : (bytes : List ℕ) (found : Members) → length bytes ≡ 0 → members_onto bytes found ≡ found
members_empty [] found is = members_none found
members_empty (b ∷ bs) found is = absurd (omega (arith, is))

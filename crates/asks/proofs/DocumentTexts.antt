-- Each text of a document is UTF-8.
use Rattle.std.proofs.Common.{◌≡◌, ℕ, zero, suc, Bool, true, false, cond, List, [], ◌∷◌, length, take, IsUtf8, Ordering, Less, Equal, Greater, nat_cmp, refl, ap, subst, ◌∙◌, eqb-true}
use Rattle.std.specs.Ordering.{match_ordering}
use Rattle.std.specs.Cmp.Lexicographic.{slice_cmp}
use Rattle.std.specs.Str.Lossy.{utf8_valid_len}
use Rattle.std.proofs.Math.Seq.{take-length}
use Rattle.serde_json.specs.Data.{Data, Members, no_members, member, put}
use Rattle.compact_json.specs.Boxes.{content, after}
use Rattle.compact_json.proofs.KindLaws.{box_holds}
use Rattle.compact_json.specs.Kept.{is_text, put_text, items_by, members_by, data_within, data_of}
use Rattle.asks.specs.Plain.{HasText, ItemsHaveText, MembersHaveText}
use Rattle.asks.proofs.Texts.{valid}

passed_text : (s : List ℕ) → is_text s ≡ true → IsUtf8 s
passed_text s is = subst IsUtf8 (ap (λ n. take n s) (eqb-true (utf8_valid_len s) (length s) is) ∙ take-length s) (valid s)

-- ---- members that are put

put_has_at : (o : Ordering) (k l : List ℕ) (d e : Data) (ms : Members) → IsUtf8 k → HasText d → MembersHaveText (member l e ms) → MembersHaveText (put k d ms)
    → MembersHaveText (match_ordering o (member k d (member l e ms)) (member l d ms) (member l e (put k d ms)))
put_has_at Less k l d e ms utf8 has all later = (utf8, has, all)
put_has_at Equal k l d e ms utf8 has all later = (all.0, has, all.2)
put_has_at Greater k l d e ms utf8 has all later = (all.0, all.1, later)

put_has : (k : List ℕ) (d : Data) (ms : Members) → IsUtf8 k → HasText d → MembersHaveText ms → MembersHaveText (put k d ms)
put_has k d no_members utf8 has all = (utf8, has, tt)
put_has k d (member l e ms) utf8 has all = put_has_at (slice_cmp nat_cmp k l) k l d e ms utf8 has all (put_has k d ms utf8 has all.2)

put_text_has : (b : Bool) (k : List ℕ) (d : Data) (ms : Members) → is_text k ≡ b → HasText d → MembersHaveText ms → MembersHaveText (cond b (put k d ms) ms)
put_text_has true k d ms is has all = put_has k d ms (passed_text k is) has all
put_text_has false k d ms is has all = all

-- ---- boxes

items_have : (each : List ℕ → Data) → ((s : List ℕ) → HasText (each s)) → (n : ℕ) (bytes : List ℕ) → ItemsHaveText (items_by each n bytes)
items_have each has zero bytes = tt
items_have each has (suc n) [] = tt
items_have each has (suc n) (b ∷ bs) = (has (b ∷ bs), items_have each has n (after (b ∷ bs)))

members_have : (each : List ℕ → Data) → ((s : List ℕ) → HasText (each s)) → (n : ℕ) (bytes : List ℕ) (found : Members) → MembersHaveText found → MembersHaveText (members_by each n bytes found)
members_have each has zero bytes found all = all
members_have each has (suc n) [] found all = all
members_have each has (suc n) (b ∷ bs) found all =
    members_have each has n (after (after (b ∷ bs))) (put_text (content (b ∷ bs)) (each (after (b ∷ bs))) found)
    (put_text_has (is_text (content (b ∷ bs))) (content (b ∷ bs)) (each (after (b ∷ bs))) found refl (has (after (b ∷ bs))) all)

within_has : (n : ℕ) (bytes : List ℕ) → HasText (data_within n bytes)
unfolding data_within
within_has zero bytes = tt
within_has (suc n) bytes =
    let s = content bytes in
    let each = within_has n in
    box_holds HasText bytes (λ t. items_by (data_within n) (length t) t) (λ t. members_by (data_within n) (length t) t no_members)
    tt (λ b. tt) (λ m. tt) passed_text (items_have (data_within n) each (length s) s) (members_have (data_within n) each (length s) s no_members tt)

-- the data of any boxes
pub data_has_text : (bytes : List ℕ) → HasText (data_of bytes)
unfolding data_of
data_has_text bytes = within_has (length bytes) bytes

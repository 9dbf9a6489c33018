-- The member that an object has at a key is the last of that key.
use Rattle.std.proofs.Common.{◌≡◌, ℕ, zero, suc, ◌≤◌, Bool, true, false, cond, List, [], ◌∷◌, length, Option, None, Some, IsUtf8, refl, sym, ap, ◌∙◌, true≢false, arith, eq-eqb}
use Rattle.std.specs.Option.{option_or}
use Rattle.std.specs.Str.{bytes_eq}
use Rattle.std.specs.Str.Lossy.{utf8_valid_len}
use Rattle.std.proofs.lemmas.Str.{utf8_valid_len-IsUtf8}
use Rattle.std.proofs.lemmas.Slice.Eq.{bytes_eq-Decides}
use Rattle.serde_json.specs.Data.{Data, Members, no_members, put}
use Rattle.serde_json.specs.Find.{get_member}
use Rattle.serde_json.proofs.Views.{get_member-put, get_member-put_other}
use Rattle.compact_json.specs.Boxes.{content, after}
use Rattle.compact_json.specs.Kept.{is_text, put_text, members_by, data_of, members_onto, members_of}
use Rattle.compact_json.proofs.KeptLaws.{members_more}

-- what is UTF-8 passes the test
pub text_passes : (s : List ℕ) → IsUtf8 s → is_text s ≡ true
text_passes s utf8 = eq-eqb (utf8_valid_len s) (length s) (utf8_valid_len-IsUtf8 s utf8)

other_key : (q k : List ℕ) → bytes_eq q k ≡ false → q ≡ k → ⊥
other_key q k isnt same = absurd (true≢false (sym ((bytes_eq-Decides q k).1 same) ∙ isnt))

one_put : (b : Bool) (q k : List ℕ) (d : Data) (found : Members) → bytes_eq q k ≡ b
    → get_member q (put k d found) ≡ option_or (get_member q (put k d no_members)) (get_member q found)
one_put true q k d found is =
    let same = (bytes_eq-Decides q k).0 is in
    let here = λ (ms : Members). ap (λ x. get_member q (put x d ms)) (sym same) ∙ get_member-put q d ms in
    here found ∙ sym (ap (λ o. option_or o (get_member q found)) (here no_members))
one_put false q k d found is =
    let apart = other_key q k is in
    get_member-put_other q k d found apart ∙ sym (ap (λ o. option_or o (get_member q found)) (get_member-put_other q k d no_members apart))

one_text : (b : Bool) (q k : List ℕ) (d : Data) (found : Members)
    → get_member q (cond b (put k d found) found) ≡ option_or (get_member q (cond b (put k d no_members) no_members)) (get_member q found)
one_text true q k d found = one_put (bytes_eq q k) q k d found refl
one_text false q k d found = refl

or_both : {A : Type 0} (a b c : Option A) → option_or a (option_or b c) ≡ option_or (option_or a b) c
or_both None b c = refl
or_both (Some x) b c = refl

onto_or : (each : List ℕ → Data) (n : ℕ) (bytes : List ℕ) (found : Members) (q : List ℕ)
    → get_member q (members_by each n bytes found) ≡ option_or (get_member q (members_by each n bytes no_members)) (get_member q found)
onto_or each zero bytes found q = refl
onto_or each (suc n) [] found q = refl
onto_or each (suc n) (b ∷ bs) found q =
    let rest = after (after (b ∷ bs)) in
    let k = content (b ∷ bs) in
    let d = each (after (b ∷ bs)) in
    let left = get_member q (members_by each n rest no_members) in
    let one = get_member q (put_text k d no_members) in
    onto_or each n rest (put_text k d found) q
    ∙ ap (option_or left) (one_text (is_text k) q k d found)
    ∙ or_both left one (get_member q found)
    ∙ ap (λ o. option_or o (get_member q found)) (sym (onto_or each n rest (put_text k d no_members) q))

members_or : (bytes : List ℕ) (found : Members) (q : List ℕ)
    → get_member q (members_onto bytes found) ≡ option_or (get_member q (members_of bytes)) (get_member q found)
unfolding members_onto
members_or bytes found q = onto_or data_of (length bytes) bytes found q

-- ---- a search from the front

chosen_by : (b : Bool) (q k : List ℕ) (d : Data) (o : Option Data) → bytes_eq k q ≡ b → is_text q ≡ true
    → option_or (get_member q (put_text k d no_members)) o ≡ cond b (Some d) o
chosen_by true q k d o is text =
    let same = (bytes_eq-Decides k q).0 is in
    ap (λ x. option_or (get_member q (put_text x d no_members)) o) same
    ∙ ap (λ t. option_or (get_member q (cond t (put q d no_members) no_members)) o) text
    ∙ ap (λ p. option_or p o) (get_member-put q d no_members)
chosen_by false q k d o is text =
    let apart = λ (same : q ≡ k). other_key k q is (sym same) in
    none (is_text k) q k d o apart
  where
    none : (t : Bool) (x y : List ℕ) (e : Data) (p : Option Data) → (x ≡ y → ⊥) → option_or (get_member x (cond t (put y e no_members) no_members)) p ≡ p
    none true x y e p other = ap (λ m. option_or m p) (get_member-put_other x y e no_members other)
    none false x y e p other = refl

-- one member more is seen
pub one_seen : (q bytes : List ℕ) (o : Option Data) → IsUtf8 q → 1 ≤ length bytes
    → option_or (get_member q (members_of (after (after bytes)))) (cond (bytes_eq (content bytes) q) (Some (data_of (after bytes))) o)
    ≡ option_or (get_member q (members_of bytes)) o
one_seen q [] o utf8 some = absurd (omega (arith, some))
one_seen q (b ∷ bs) o utf8 some =
    let bytes = b ∷ bs in
    let rest = after (after bytes) in
    let k = content bytes in
    let d = data_of (after bytes) in
    let left = get_member q (members_of rest) in
    ap (option_or left) (sym (chosen_by (bytes_eq k q) q k d o refl (text_passes q utf8)))
    ∙ or_both left (get_member q (put_text k d no_members)) o
    ∙ ap (λ p. option_or p o) (sym (ap (get_member q) (members_more b bs no_members) ∙ members_or rest (put_text k d no_members) q))

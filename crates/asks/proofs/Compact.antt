-- The text of plain data is read as that data.
use Rattle.std.proofs.Common.{◌≡◌, ◌≤◌, Bool, true, false, [], ◌∷◌, Some, option_map, option_and_then, IsUtf8, refl, sym, ap, ◌∙◌, arith, append-nil}
use Rattle.std.proofs.lemmas.Fmt.{IsAscii-decimal}
use Rattle.std.proofs.lemmas.Str.{IsUtf8-append, IsUtf8-from_ascii}
use Rattle.json.specs.Json as json
use Rattle.json.specs.Lex.{tokens}
use Rattle.json.specs.Tree as tree
use Rattle.json.proofs.Printed.Decimals.{IsNumber-decimal}
use Rattle.json.proofs.Printed.Tokens.{tokens-print}
use Rattle.json.proofs.Printed.Trees.{value-json_tokens, ArePrintable-json_tokens}
use Rattle.json.proofs.Printed.Utf8.{IsUtf8-are_ascii, IsUtf8-boolean, IsUtf8-quoted}
use Rattle.serde_json.specs.Data.{unsigned, negative, float, Data, null, boolean, number, string, array, object, Items, no_items, item, Members, no_members, member, put, depth, items_depth, members_depth}
use Rattle.serde_json.specs.Read.{read, of_json, of_items, of_members, max_depth}
use Rattle.serde_json.specs.Written.{outline, items_outline, members_outline, comma_if, compact_text, items_text, members_text, has_float, items_have_float, members_have_float}
use Rattle.serde_json.proofs.Numbers.{number_of-decimal}
use Rattle.serde_json.proofs.Texts.{print-outline}
use Rattle.asks.specs.Plain.{AreInOrder, IsPlain, ItemsArePlain, MembersArePlain, HasText, ItemsHaveText, MembersHaveText}
use Rattle.asks.proofs.Joined.{joined, joined_again, joined_nothing, put_last}

-- ---- what is read of the tree that is written

mutual
  tree_again : (d : Data) → IsPlain d → of_json (outline d) ≡ Some d
  tree_again null is = refl
  tree_again (boolean b) is = refl
  tree_again (number (unsigned n)) is = ap (option_map number) (number_of-decimal n is)
  tree_again (number (negative z)) is = absurd is
  tree_again (number (float x)) is = absurd is
  tree_again (string t) is = refl
  tree_again (array ds) is = ap (option_map array) (items_again ds is)
  tree_again (object ms) is = ap (option_map object) (members_again ms no_members is.0 is.1)

  items_again : (ds : Items) → ItemsArePlain ds → of_items (items_outline ds) ≡ Some ds
  items_again no_items are = refl
  items_again (item d ds) are =
      ap (option_and_then (λ x. option_map (item x) (of_items (items_outline ds)))) (tree_again d are.0)
      ∙ ap (option_map (item d)) (items_again ds are.1)

  members_again : (ms before : Members) → AreInOrder (joined before ms) → MembersArePlain ms → of_members (members_outline ms) before ≡ Some (joined before ms)
  members_again no_members before order are = ap Some (sym (joined_nothing before))
  members_again (member k d ms) before order are =
      let last = put_last before k d ms order in
      let moved = joined_again before (member k d no_members) ms in
      ap (option_and_then (λ x. of_members (members_outline ms) (put k x before))) (tree_again d are.0)
      ∙ ap (of_members (members_outline ms)) last
      ∙ members_again ms (joined before (member k d no_members)) (rw moved order) are.1
      ∙ ap Some moved

mutual
  has_numbers : (d : Data) → IsPlain d → tree.HasNumbers (outline d)
  has_numbers null is = tt
  has_numbers (boolean b) is = tt
  has_numbers (number (unsigned n)) is = IsNumber-decimal n is
  has_numbers (number (negative z)) is = absurd is
  has_numbers (number (float x)) is = absurd is
  has_numbers (string t) is = tt
  has_numbers (array ds) is = items_have_numbers ds is
  has_numbers (object ms) is = members_have_numbers ms is.1

  items_have_numbers : (ds : Items) → ItemsArePlain ds → tree.ItemsHaveNumbers (items_outline ds)
  items_have_numbers no_items are = tt
  items_have_numbers (item d ds) are = (has_numbers d are.0, items_have_numbers ds are.1)

  members_have_numbers : (ms : Members) → MembersArePlain ms → tree.MembersHaveNumbers (members_outline ms)
  members_have_numbers no_members are = tt
  members_have_numbers (member k d ms) are = (has_numbers d are.0, members_have_numbers ms are.1)

mutual
  as_deep : (d : Data) → tree.depth (outline d) ≡ depth d
  as_deep null = refl
  as_deep (boolean b) = refl
  as_deep (number n) = refl
  as_deep (string t) = refl
  as_deep (array ds) = omega (arith, items_as_deep ds)
  as_deep (object ms) = omega (arith, members_as_deep ms)

  items_as_deep : (ds : Items) → tree.items_depth (items_outline ds) ≡ items_depth ds
  items_as_deep no_items = refl
  items_as_deep (item d ds) = rw (as_deep d, items_as_deep ds)

  members_as_deep : (ms : Members) → tree.members_depth (members_outline ms) ≡ members_depth ms
  members_as_deep no_members = refl
  members_as_deep (member k d ms) = rw (as_deep d, members_as_deep ms)

-- what is written of plain data that isn't too deep is read as it
pub read_compact : (d : Data) → IsPlain d → depth d ≤ max_depth → read (compact_text d) ≡ Some d
read_compact d plain shallow =
    let words : tokens (compact_text d) ≡ tree.json_tokens (outline d) =
    ap tokens (sym (print-outline d)) ∙ tokens-print _ (ArePrintable-json_tokens (outline d) (has_numbers d plain)) in
    ap (λ ts. option_and_then of_json (option_and_then (λ p. json.if_last p.0 p.1) (json.value max_depth ts))) (words ∙ sym (append-nil _))
    ∙ ap (λ o. option_and_then of_json (option_and_then (λ p. json.if_last p.0 p.1) o)) (value-json_tokens (outline d) max_depth [] (omega (arith, as_deep d)))
    ∙ tree_again d plain

-- ---- it is UTF-8

utf8_comma : (later : Bool) → IsUtf8 (comma_if later)
utf8_comma true = IsUtf8-are_ascii (44 ∷ []) refl
utf8_comma false = IsUtf8-are_ascii [] refl

mutual
  pub utf8_compact : (d : Data) → IsPlain d → HasText d → IsUtf8 (compact_text d)
  utf8_compact null is has = IsUtf8-are_ascii _ refl
  utf8_compact (boolean b) is has = IsUtf8-boolean b
  utf8_compact (number (unsigned n)) is has = IsUtf8-from_ascii _ (IsAscii-decimal n is)
  utf8_compact (number (negative z)) is has = absurd is
  utf8_compact (number (float x)) is has = absurd is
  utf8_compact (string t) is has = IsUtf8-quoted t has
  utf8_compact (array ds) is has = IsUtf8-append (91 ∷ []) _ (IsUtf8-are_ascii (91 ∷ []) refl) (utf8_items false ds is has)
  utf8_compact (object ms) is has = IsUtf8-append (123 ∷ []) _ (IsUtf8-are_ascii (123 ∷ []) refl) (utf8_members false ms is.1 has)

  utf8_items : (later : Bool) (ds : Items) → ItemsArePlain ds → ItemsHaveText ds → IsUtf8 (items_text later ds)
  utf8_items later no_items are have = IsUtf8-are_ascii _ refl
  utf8_items later (item d ds) are have =
      IsUtf8-append (comma_if later) _ (utf8_comma later) (IsUtf8-append _ _ (utf8_compact d are.0 have.0) (utf8_items true ds are.1 have.1))

  utf8_members : (later : Bool) (ms : Members) → MembersArePlain ms → MembersHaveText ms → IsUtf8 (members_text later ms)
  utf8_members later no_members are have = IsUtf8-are_ascii _ refl
  utf8_members later (member k d ms) are have =
      IsUtf8-append (comma_if later) _ (utf8_comma later) (IsUtf8-append _ _ (IsUtf8-quoted k have.0)
      (IsUtf8-append (58 ∷ []) _ (IsUtf8-are_ascii (58 ∷ []) refl) (IsUtf8-append _ _ (utf8_compact d are.0 have.1) (utf8_members true ms are.1 have.2))))

-- ---- it has no number with a fraction

mutual
  pub plain_whole : (d : Data) → IsPlain d → has_float d ≡ false
  plain_whole null is = refl
  plain_whole (boolean b) is = refl
  plain_whole (number (unsigned n)) is = refl
  plain_whole (number (negative z)) is = refl
  plain_whole (number (float x)) is = absurd is
  plain_whole (string t) is = refl
  plain_whole (array ds) is = items_whole ds is
  plain_whole (object ms) is = members_whole ms is.1

  items_whole : (ds : Items) → ItemsArePlain ds → items_have_float ds ≡ false
  items_whole no_items are = refl
  items_whole (item d ds) are = rw (plain_whole d are.0) (items_whole ds are.1)

  members_whole : (ms : Members) → MembersArePlain ms → members_have_float ms ≡ false
  members_whole no_members are = refl
  members_whole (member k d ms) are = rw (plain_whole d are.0) (members_whole ms are.1)

use Rattle.std.proofs.Common.{◌≡◌, ◌-◌, ◌<◌, [], ◌∷◌, length, true, false, Some, None, refl, sym, ap, ap₂, ◌∙◌, arith}
use Rattle.std.specs.Prelude.{is_some}
use Rattle.std.proofs.lemmas.Result.{on_ok_weaker}
use Rattle.json.specs.Token.{Token}
use Rattle.json.specs.Json.{parse_map, after_end_array, read_key, items, members, value}
use Rattle.json.specs.Reads.{token_of}
use Rattle.json.proofs.Grammar.{value_is, value-begin_array, value-begin_object, read_key-shorter}
use Rattle.serde_json.specs.Data.{string, array, object, put}
use Rattle.serde_json.specs.Read.{of_json, of_members, converted, number_of}
use Rattle.compact_json.proofs.Reading.{converted-array, converted-object, item_read, item_refused, items_over, member_read, member_refused, key_refused, members_over}
use Rattle.compact_json.specs.declared.boxes.Kind.TheVariants as kind
use Rattle.compact_json.specs.Kept.{number_data, data_of}
use Rattle.compact_json.proofs.WriteLaws.{has_data, text_kept, number_kept, number_refused, items_begin, items_step, items_end, members_begin, members_step, members_end, closed}
use Rattle.compact_json.proofs.writing.+write.Goals as goal

pub write-returns-in_err-token-clause-err : goal.write-returns-in_err-token-clause-err
write-returns-in_err-token-clause-err t c refused =
    let empty : c.args.reader.now ≡ [] = grind arith in
    ap (converted of_json) (ap (value c.args.depth) empty ∙ value_is c.args.depth [])

pub write-returns-then-depth-eq0-clause-err : goal.write-returns-then-depth-eq0-clause-err
unfolding value
write-returns-then-depth-eq0-clause-err t c never =
    let first : c.args.reader.now ≡ token_of c.in_ok-token.token ∷ c.next.new.self = grind arith in
    let none : c.args.depth ≡ 0 = omega arith in
    ap (converted of_json) (ap₂ value none (first ∙ ap (λ k. token_of k ∷ c.next.new.self) c.in-BeginArray.is))

pub write-returns-then-depth-eq0-2-clause-err : goal.write-returns-then-depth-eq0-2-clause-err
unfolding value
write-returns-then-depth-eq0-2-clause-err t c never =
    let first : c.args.reader.now ≡ token_of c.in_ok-token.token ∷ c.next.new.self = grind arith in
    let none : c.args.depth ≡ 0 = omega arith in
    ap (converted of_json) (ap₂ value none (first ∙ ap (λ k. token_of k ∷ c.next.new.self) c.in-BeginObject.is))

pub write-returns-in_ok-push_box-in-String-clause-ok : goal.write-returns-in_ok-push_box-in-String-clause-ok
write-returns-in_ok-push_box-in-String-clause-ok t c =
    let first : c.args.reader.now ≡ token_of c.in_ok-token.token ∷ c.next.new.self = grind arith in
    let is : c.args.reader.now ≡ Token.string c.in-String.text.now ∷ c.next.new.self = grind (arith, first) in
    let s = c.as_bytes.result.now in
    let same : c.in-String.text.now ≡ s = sym c.as_bytes.ensures.value in
    has_data kind.Text s _ _ _ c.next.new.self c.in_ok-push_box-in-String.ensures
    (ap (converted of_json) (ap (value c.args.depth) is ∙ value_is c.args.depth _)
    ∙ ap (λ d. Some (d, c.next.new.self)) (ap string same ∙ text_kept s c.as_bytes.ensures.utf8))

pub write-returns-in_ok-push_box-in-Number-clause-ok : goal.write-returns-in_ok-push_box-in-Number-clause-ok
write-returns-in_ok-push_box-in-Number-clause-ok t c =
    let first : c.args.reader.now ≡ token_of c.in_ok-token.token ∷ c.next.new.self = grind arith in
    let is : c.args.reader.now ≡ Token.number c.in-Number.text.now ∷ c.next.new.self = grind (arith, first) in
    let s = c.as_bytes-then-is_number.result.now in
    let same : c.in-Number.text.now ≡ s = sym c.as_bytes-then-is_number.ensures.value in
    let read : is_some (number_of c.in-Number.text.now) ≡ true = sym (sym c.if-is_number.true ∙ c.is_number.ensures ∙ ap (λ x. is_some (number_of x)) c.as_bytes-in-Number.ensures.value) in
    has_data kind.Number s _ _ _ c.next.new.self c.in_ok-push_box-in-Number.ensures
    (ap (converted of_json) (ap (value c.args.depth) is ∙ value_is c.args.depth _)
    ∙ number_kept (number_of c.in-Number.text.now) c.next.new.self read
    ∙ ap (λ x. Some (number_data x, c.next.new.self)) same)

pub write-returns-else-is_number-clause-err : goal.write-returns-else-is_number-clause-err
write-returns-else-is_number-clause-err t c never =
    let first : c.args.reader.now ≡ token_of c.in_ok-token.token ∷ c.next.new.self = grind arith in
    let is : c.args.reader.now ≡ Token.number c.in-Number.text.now ∷ c.next.new.self = grind (arith, first) in
    let none : is_some (number_of c.in-Number.text.now) ≡ false = sym (sym c.if-is_number.false ∙ c.is_number.ensures ∙ ap (λ x. is_some (number_of x)) c.as_bytes-in-Number.ensures.value) in
    ap (converted of_json) (ap (value c.args.depth) is ∙ value_is c.args.depth _) ∙ number_refused (number_of c.in-Number.text.now) c.next.new.self none

pub write-returns-in_ok-push_small-in-Bool-clause-ok : goal.write-returns-in_ok-push_small-in-Bool-clause-ok
write-returns-in_ok-push_small-in-Bool-clause-ok t c =
    let first : c.args.reader.now ≡ token_of c.in_ok-token.token ∷ c.next.new.self = grind arith in
    let is : c.args.reader.now ≡ Token.boolean true ∷ c.next.new.self = grind (arith, first) in
    has_data kind.True [] _ _ _ c.next.new.self c.in_ok-push_small-in-Bool.ensures (ap (converted of_json) (ap (value c.args.depth) is ∙ value_is c.args.depth _))

pub write-returns-in_ok-push_small-in-Bool-2-clause-ok : goal.write-returns-in_ok-push_small-in-Bool-2-clause-ok
write-returns-in_ok-push_small-in-Bool-2-clause-ok t c =
    let first : c.args.reader.now ≡ token_of c.in_ok-token.token ∷ c.next.new.self = grind arith in
    let is : c.args.reader.now ≡ Token.boolean false ∷ c.next.new.self = grind (arith, first) in
    has_data kind.False [] _ _ _ c.next.new.self c.in_ok-push_small-in-Bool-2.ensures (ap (converted of_json) (ap (value c.args.depth) is ∙ value_is c.args.depth _))

pub write-returns-in_ok-push_small-in-Null-clause-ok : goal.write-returns-in_ok-push_small-in-Null-clause-ok
write-returns-in_ok-push_small-in-Null-clause-ok t c =
    let first : c.args.reader.now ≡ token_of c.in_ok-token.token ∷ c.next.new.self = grind arith in
    let is : c.args.reader.now ≡ Token.null ∷ c.next.new.self = grind (arith, first) in
    has_data kind.Null [] _ _ _ c.next.new.self c.in_ok-push_small-in-Null.ensures (ap (converted of_json) (ap (value c.args.depth) is ∙ value_is c.args.depth _))

pub write-returns-in-EndObject-clause-err : goal.write-returns-in-EndObject-clause-err
write-returns-in-EndObject-clause-err t c never =
    let first : c.args.reader.now ≡ token_of c.in_ok-token.token ∷ c.next.new.self = grind arith in
    let none : value c.args.depth c.args.reader.now ≡ None = rw (value_is c.args.depth c.args.reader.now, first) (grind arith) in
    ap (converted of_json) none

pub write-returns-else-depth-eq0-clause-ok : goal.write-returns-else-depth-eq0-clause-ok
write-returns-else-depth-eq0-clause-ok t c =
    let first : c.args.reader.now ≡ token_of c.in_ok-token.token ∷ c.next.new.self = grind arith in
    let opened = ap (converted of_json) (ap (value c.args.depth) (first ∙ ap (λ k. token_of k ∷ c.next.new.self) c.in-BeginArray.is) ∙ value-begin_array c.args.depth c.next.new.self (omega arith)) ∙ converted-array (items (value (c.args.depth - 1)) (length c.next.new.self) c.next.new.self) in
    on_ok_weaker c.write_array.result (λ has. has_data kind.Array has.inner _ _ _ _ has.is_array (opened ∙ ap (parse_map array) has.keeps)) c.write_array.ensures.ok

pub write-returns-else-depth-eq0-clause-err : goal.write-returns-else-depth-eq0-clause-err
write-returns-else-depth-eq0-clause-err t c refused =
    let first : c.args.reader.now ≡ token_of c.in_ok-token.token ∷ c.next.new.self = grind arith in
    let opened = ap (converted of_json) (ap (value c.args.depth) (first ∙ ap (λ k. token_of k ∷ c.next.new.self) c.in-BeginArray.is) ∙ value-begin_array c.args.depth c.next.new.self (omega arith)) ∙ converted-array (items (value (c.args.depth - 1)) (length c.next.new.self) c.next.new.self) in
    opened ∙ ap (parse_map array) (c.write_array.ensures.err refused)

pub write-returns-else-depth-eq0-2-clause-ok : goal.write-returns-else-depth-eq0-2-clause-ok
write-returns-else-depth-eq0-2-clause-ok t c =
    let first : c.args.reader.now ≡ token_of c.in_ok-token.token ∷ c.next.new.self = grind arith in
    let opened = ap (converted of_json) (ap (value c.args.depth) (first ∙ ap (λ k. token_of k ∷ c.next.new.self) c.in-BeginObject.is) ∙ value-begin_object c.args.depth c.next.new.self (omega arith)) ∙ converted-object (members (value (c.args.depth - 1)) (length c.next.new.self) c.next.new.self) in
    on_ok_weaker c.write_object.result (λ has. has_data kind.Object has.inner _ _ _ _ has.is_object (opened ∙ ap (parse_map object) has.keeps)) c.write_object.ensures.ok

pub write-returns-else-depth-eq0-2-clause-err : goal.write-returns-else-depth-eq0-2-clause-err
write-returns-else-depth-eq0-2-clause-err t c refused =
    let first : c.args.reader.now ≡ token_of c.in_ok-token.token ∷ c.next.new.self = grind arith in
    let opened = ap (converted of_json) (ap (value c.args.depth) (first ∙ ap (λ k. token_of k ∷ c.next.new.self) c.in-BeginObject.is) ∙ value-begin_object c.args.depth c.next.new.self (omega arith)) ∙ converted-object (members (value (c.args.depth - 1)) (length c.next.new.self) c.next.new.self) in
    opened ∙ ap (parse_map object) (c.write_object.ensures.err refused)

pub write_array-returns-clause-ok : goal.write_array-returns-clause-ok
write_array-returns-clause-ok t c =
    let opened = c.in_ok-start.ensures in
    let has = c.in_ok-write_items.ensures.ok in
    let done = c.in_ok-close_box.ensures in
    record {
      inner = has.added;
      is_array = closed 7 c.in_ok-start.start _ _ _ _ has.added (omega arith) opened.longer opened.start has.longer done.sets done.fits;
      keeps = has.keeps;
    }

pub write_object-returns-clause-ok : goal.write_object-returns-clause-ok
write_object-returns-clause-ok t c =
    let opened = c.in_ok-start.ensures in
    let has = c.in_ok-write_members.ensures.ok in
    let done = c.in_ok-close_box.ensures in
    record {
      inner = has.added;
      is_object = closed 8 c.in_ok-start.start _ _ _ _ has.added (omega arith) opened.longer opened.start has.longer done.sets done.fits;
      keeps = has.keeps;
    }

pub write_items-items-init : goal.write_items-items-init
write_items-items-init t c = (length c.args.reader.now, omega arith, items_begin c.args.out.now.items _, omega arith)

pub write_items-items-preserved : goal.write_items-items-preserved
write_items-items-preserved t c =
    let p = value c.args.depth in
    let l = c.items in
    let n = l.invariant.0 in
    let going : (after_end_array l.reader ≡ None) × (c.take_end_array.new.self ≡ l.reader) = grind arith in
    let done = c.in_ok-write.ensures in
    let has = done.ok in
    let r = c.write.new.reader in
    let less : length r < length l.reader = rw (← going.1) done.shorter in
    let turn = item_read p n l.reader r (data_of has.added) (omega (arith, l.invariant.1)) going.0 (rw (← going.1) has.keeps) in (
      n - 1,
      omega (arith, l.invariant.1),
      items_step _ _ _ _ _ _ _ _ l.invariant.2 has turn,
      omega (arith, l.invariant.3),
    )

pub write_items-returns-in_err-write-clause-err : goal.write_items-returns-in_err-write-clause-err
write_items-returns-in_err-write-clause-err t c refused =
    let p = value c.args.depth in
    let l = c.items in
    let n = l.invariant.0 in
    let g = l.invariant.2 in
    let going : (after_end_array l.reader ≡ None) × (c.take_end_array.new.self ≡ l.reader) = grind arith in
    g.same ∙ ap (parse_map g.into) (item_refused p n l.reader going.0 (rw (← going.1) (c.write.ensures.err (grind arith))))

pub write_items-returns-clause-ok : goal.write_items-returns-clause-ok
write_items-returns-clause-ok t c =
    let p = value c.args.depth in
    let l = c.items in
    let n = l.invariant.0 in
    let r = c.take_end_array.new.self in
    items_end _ _ _ _ r l.invariant.2 (items_over p n l.reader r l.invariant.1 (grind arith))

pub write_members-members-init : goal.write_members-members-init
write_members-members-init t c =
    let p = value c.args.depth in
    let r = c.args.reader.now in
    (length r, omega arith, members_begin c.args.out.now.items _ (λ found. converted (λ ms. of_members ms found) (members p (length r) r)) refl, omega arith)

pub write_members-returns-in_err-key-clause-err : goal.write_members-returns-in_err-key-clause-err
write_members-returns-in_err-key-clause-err t c refused =
    let p = value c.args.depth in
    let l = c.members in
    let n = l.invariant.0 in
    let g = l.invariant.2 in
    g.same ∙ key_refused p g.found n l.reader c.in_err-key.ensures.value

pub write_members-returns-in_err-write-clause-err : goal.write_members-returns-in_err-write-clause-err
write_members-returns-in_err-write-clause-err t c refused =
    let p = value c.args.depth in
    let l = c.members in
    let n = l.invariant.0 in
    let g = l.invariant.2 in
    let k = c.in-Some.key.now in
    let s = c.next_key.new.self in
    let named : read_key l.reader ≡ Some (Some k, s) = grind arith in
    g.same ∙ member_refused p g.found n k l.reader s named (c.write.ensures.err (grind arith))

pub write_members-members-preserved : goal.write_members-members-preserved
write_members-members-preserved t c =
    let p = value c.args.depth in
    let l = c.members in
    let n = l.invariant.0 in
    let g = l.invariant.2 in
    let k = c.in-Some.key.now in
    let s = c.next_key.new.self in
    let named : read_key l.reader ≡ Some (Some k, s) = grind arith in
    let done = c.in_ok-write.ensures in
    let has = done.ok in
    let r = c.write.new.reader in
    let less = read_key-shorter l.reader (Some k) s named in
    let lesser = done.shorter in
    let same : c.as_bytes.result.now ≡ k = c.as_bytes.ensures.value in (
      n - 1,
      omega (arith, l.invariant.1, less, lesser),
      members_step c.as_bytes.result.now _ _ _ _ _ (λ found. converted (λ ms. of_members ms found) (members p n l.reader)) (λ found. converted (λ ms. of_members ms found) (members p (n - 1) r)) _ _
          g c.in_ok-push_box.ensures c.as_bytes.ensures.utf8 has
          (λ found. member_read p found n k l.reader s r (data_of has.added) (omega (arith, l.invariant.1, less)) named has.keeps
          ∙ ap (λ x. converted (λ ms. of_members ms (put x (data_of has.added) found)) (members p (n - 1) r)) (sym same)),
      omega (arith, l.invariant.3, less, lesser),
    )

pub write_members-returns-clause-ok : goal.write_members-returns-clause-ok
write_members-returns-clause-ok t c =
    let p = value c.args.depth in
    let l = c.members in
    let n = l.invariant.0 in
    let r = c.next_key.new.self in
    members_end _ _ _ _ r l.invariant.2 (λ found. members_over p found n l.reader r l.invariant.1 (grind arith))

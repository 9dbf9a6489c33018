use Rattle.std.proofs.Common.{◌≡◌, ◌≤◌, length, option_map, refl, sym, ap, ◌∙◌, arith}
use Rattle.serde_json.specs.Data.{no_members}
use Rattle.compact_json.specs.Boxes.{content, after}
use Rattle.compact_json.specs.Kept.{put_text, data_of, members_onto}
use Rattle.compact_json.specs.Keys.{past, first_key, lesser}
use Rattle.compact_json.proofs.BoxLaws.{after_shorter}
use Rattle.compact_json.proofs.KeptLaws.{members_next, members_empty}
use Rattle.compact_json.proofs.KeyLaws.{order_text, least_text}
use Rattle.compact_json.proofs.keys.next_key.Goals as goal

pub members-init : goal.members-init
members-init c = (no_members, tt, refl, refl)

pub members-preserved : goal.members-preserved
members-preserved c =
    let l = c.members in
    let left = l.left.now in
    let started = c.args.started in
    let last = c.args.last.now in
    let some : 1 ≤ length left = grind arith in
    let done = l.invariant.0 in
    let order = l.invariant.1 in
    let k = content left in
    let d = data_of (after left) in (
      put_text k d done,
      order_text k d done order,
      ap (λ t. members_onto t (put_text k d done)) (c.after_box-left.ensures ∙ ap after c.after_box.ensures) ∙ sym (members_next left done some) ∙ l.invariant.2,
      c.lesser-least.ensures ∙ ap (λ x. lesser started last x (option_map (λ q. q.now) l.least)) c.content_of.ensures
          ∙ ap (lesser started last k) l.invariant.3 ∙ least_text started last k d done order,
    )

pub members-smaller : goal.members-smaller
members-smaller c =
    let left = c.members.left.now in
    let some : 1 ≤ length left = grind arith in
    omega (arith, some, ap length (c.after_box-left.ensures ∙ ap after c.after_box.ensures), after_shorter left, after_shorter (after left))

pub returns : goal.returns
returns c =
    let l = c.members in
    let done = l.invariant.0 in
    let none : length l.left.now ≡ 0 = grind arith in
    l.invariant.3 ∙ ap (λ m. first_key (past c.args.started c.args.last.now m)) (sym (members_empty l.left.now done none) ∙ l.invariant.2)

use Rattle.std.proofs.Common.{◌≡◌, ◌≤◌, length, Option, None, Some, option_map, refl, sym, ap, ◌∙◌, arith}
use Rattle.std.specs.Option.{option_or}
use Rattle.serde_json.specs.Data.{Data, no_members}
use Rattle.serde_json.specs.Find.{get_member}
use Rattle.compact_json.specs.Boxes.{after}
use Rattle.compact_json.specs.Kept.{members_of}
use Rattle.compact_json.specs.Elements.{data_at}
use Rattle.compact_json.proofs.BoxLaws.{after_shorter}
use Rattle.compact_json.proofs.KeptLaws.{members_empty}
use Rattle.compact_json.proofs.MemberLaws.{one_seen}
use Rattle.compact_json.proofs.members.member_at.Goals as goal

or_none : (o : Option Data) → option_or o None ≡ o
or_none None = refl
or_none (Some d) = refl

pub members-init : goal.members-init
members-init c = or_none _

pub members-preserved : goal.members-preserved
members-preserved c =
    let l = c.members in
    let key = c.args.key.now in
    let left = l.left.now in
    let some : 1 ≤ length left = grind arith in
    ap (λ t. option_or (get_member key (members_of t)) (option_map data_at c.chosen-found.result)) (c.after_box-left.ensures ∙ ap after c.after_box.ensures)
    ∙ ap (option_or (get_member key (members_of (after (after left))))) c.chosen-found.ensures
    ∙ one_seen key left (option_map data_at l.found) c.utf8.key some
    ∙ l.invariant

pub members-smaller : goal.members-smaller
members-smaller c =
    let left = c.members.left.now in
    let some : 1 ≤ length left = grind arith in
    omega (arith, some, ap length (c.after_box-left.ensures ∙ ap after c.after_box.ensures), after_shorter left, after_shorter (after left))

pub returns : goal.returns
returns c =
    let l = c.members in
    let none : length l.left.now ≡ 0 = grind arith in
    sym (ap (λ m. option_or (get_member c.args.key.now m) (option_map data_at l.found)) (members_empty l.left.now no_members none)) ∙ l.invariant

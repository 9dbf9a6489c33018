use Rattle.std.proofs.Common.{◌≡◌, ◌≤◌, length, sym, ap, ◌∙◌, arith}
use Rattle.serde_json.specs.Data.{item}
use Rattle.compact_json.specs.Kept.{data_of, items_of}
use Rattle.compact_json.proofs.KeptLaws.{items_next, items_empty}
use Rattle.compact_json.proofs.items.Items.next.Goals as goal

pub returns-then-is_empty : goal.returns-then-is_empty
returns-then-is_empty c =
    let bytes = c.args.self.now.bytes.now in
    let none : length bytes ≡ 0 = grind arith in
    let is = items_empty bytes none in
    (is, is)

pub returns : goal.returns
returns c =
    let bytes = c.args.self.now.bytes.now in
    let some : 1 ≤ length bytes = grind arith in
    items_next bytes some ∙ ap (λ t. item (data_of bytes) (items_of t)) (sym c.after_box-self.ensures)

use Rattle.std.proofs.Common.{◌≡◌, ◌+◌, ◌≤◌}
use Rattle.serde_json.specs.Events.{items_len}
use Rattle.compact_json.specs.Elements.{items_left}
use Rattle.compact_json.proofs.items.Items.are_at_most.Given as goal

abbrev pub invariant-items : goal.invariant-items
invariant-items l = (l.seen + items_len (items_left l.left) ≡ items_len (items_left l.self)) × (l.seen ≤ l.count)

abbrev pub decreases-items : goal.decreases-items
decreases-items l = items_len (items_left l.left)

use Rattle.std.proofs.Common.{◌≡◌, ◌+◌, ◌≤◌}
use Rattle.serde_json.specs.Events.{members_len}
use Rattle.compact_json.specs.Elements.{keys_left}
use Rattle.compact_json.proofs.keys.Keys.has_count.Given as goal

abbrev pub invariant-keys : goal.invariant-keys
invariant-keys l = (l.seen + members_len (keys_left l.left) ≡ members_len (keys_left l.self)) × (l.seen ≤ l.count)

abbrev pub decreases-keys : goal.decreases-keys
decreases-keys l = members_len (keys_left l.left)

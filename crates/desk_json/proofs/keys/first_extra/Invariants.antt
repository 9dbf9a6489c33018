use Rattle.std.proofs.Common.{◌≡◌}
use Rattle.serde_json.specs.Events.{members_len}
use Rattle.compact_json.specs.Elements.{keys_left}
use Rattle.desk_json.specs.Keys.{first_extra}
use Rattle.desk_json.proofs.keys.first_extra.Given as goal

abbrev pub invariant-keys : goal.invariant-keys
invariant-keys l = first_extra l.object (keys_left l.keys) ≡ first_extra l.object (keys_left l.left)

abbrev pub decreases-keys : goal.decreases-keys
decreases-keys l = members_len (keys_left l.left)

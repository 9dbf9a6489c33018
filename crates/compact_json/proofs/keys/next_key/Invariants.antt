use Rattle.std.proofs.Common.{◌≡◌, length, option_map}
use Rattle.serde_json.specs.Data.{Members}
use Rattle.compact_json.specs.Kept.{members_onto, members_of}
use Rattle.compact_json.specs.Keys.{past, first_key}
use Rattle.compact_json.proofs.KeyLaws.{AreInOrder}
use Rattle.compact_json.proofs.keys.next_key.Given as goal

abbrev pub invariant-members : goal.invariant-members
invariant-members l =
    (done : Members) × AreInOrder done × (members_onto l.left done ≡ members_of l.members)
    × (option_map (λ q. q.now) l.least ≡ first_key (past l.started l.last done))

abbrev pub decreases-members : goal.decreases-members
decreases-members l = length l.left

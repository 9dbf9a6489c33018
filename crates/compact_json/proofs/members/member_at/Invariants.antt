use Rattle.std.proofs.Common.{◌≡◌, length, option_map}
use Rattle.std.specs.Option.{option_or}
use Rattle.serde_json.specs.Find.{get_member}
use Rattle.compact_json.specs.Kept.{members_of}
use Rattle.compact_json.specs.Elements.{data_at}
use Rattle.compact_json.proofs.members.member_at.Given as goal

abbrev pub invariant-members : goal.invariant-members
invariant-members l = option_or (get_member l.key (members_of l.left)) (option_map data_at l.found) ≡ get_member l.key (members_of l.members)

abbrev pub decreases-members : goal.decreases-members
decreases-members l = length l.left

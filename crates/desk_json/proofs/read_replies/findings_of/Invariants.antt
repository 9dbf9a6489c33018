use Rattle.std.proofs.Common.{◌≡◌}
use Rattle.serde_json.specs.Events.{items_len}
use Rattle.compact_json.specs.Elements.{items_left}
use Rattle.asks.specs.Fields.{each_read}
use Rattle.asks.proofs.Lists.{onto}
use Rattle.desk_json.specs.ReadReplies.{finding_in}
use Rattle.desk_json.proofs.read_replies.findings_of.Given as goal

abbrev pub invariant-items : goal.invariant-items
invariant-items l = onto l.findings (each_read finding_in (items_left l.left)) ≡ each_read finding_in (items_left l.items)

abbrev pub decreases-items : goal.decreases-items
decreases-items l = items_len (items_left l.left)

use Rattle.std.proofs.Common.{◌≡◌}
use Rattle.serde_json.specs.Events.{items_len}
use Rattle.asks.specs.Fields.{each_read}
use Rattle.asks.specs.Legs.{alternate_of}
use Rattle.asks.proofs.Lists.{onto}
use Rattle.asks.proofs.legs.alternates_of.Given as goal

abbrev pub invariant-items : goal.invariant-items
invariant-items g l = onto l.alternates (each_read alternate_of (g.V.Json.left l.left)) ≡ each_read alternate_of (g.V.Json.left l.fn.items)

abbrev pub decreases-items : goal.decreases-items
decreases-items g l = items_len (g.V.Json.left l.left)

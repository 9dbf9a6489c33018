use Rattle.std.proofs.Common.{◌≡◌}
use Rattle.std.specs.List.{AllByRecursion}
use Rattle.serde_json.specs.Events.{items_len}
use Rattle.plan.specs.Check.{HasMoments}
use Rattle.asks.specs.Fields.{each_read}
use Rattle.asks.specs.Legs.{leg_of}
use Rattle.asks.proofs.Lists.{onto}
use Rattle.asks.proofs.legs.legs_in.Given as goal

abbrev pub invariant-items : goal.invariant-items
invariant-items g l = record {
  read : onto l.legs (each_read leg_of (g.V.Json.left l.left)) ≡ each_read leg_of (g.V.Json.left l.fn.items);
  moments : AllByRecursion HasMoments l.legs;
}

abbrev pub decreases-items : goal.decreases-items
decreases-items g l = items_len (g.V.Json.left l.left)

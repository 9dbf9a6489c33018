use Rattle.std.proofs.Common.{◌≡◌, ◌++◌, map, drop}
use Rattle.std.specs.List.{AllByRecursion}
use Rattle.serde_json.specs.View.{view}
use Rattle.plan.specs.Check.{HasMoments}
use Rattle.asks.specs.Canonical.{leg_data}
use Rattle.asks.proofs.leg_values.leg_values.Given as goal

abbrev pub invariant-loop-leg : goal.invariant-loop-leg
invariant-loop-leg l = record {
  written : map view l.values.items ++ map leg_data (drop l.leg-index l.legs) ≡ map leg_data l.legs;
  rest : AllByRecursion HasMoments (drop l.leg-index l.legs);
}

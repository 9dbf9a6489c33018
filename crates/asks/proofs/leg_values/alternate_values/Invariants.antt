use Rattle.std.proofs.Common.{◌≡◌, ◌++◌, map, drop}
use Rattle.serde_json.specs.View.{view}
use Rattle.asks.specs.Canonical.{alternate_data}
use Rattle.asks.proofs.leg_values.alternate_values.Given as goal

abbrev pub invariant-loop-alternate : goal.invariant-loop-alternate
invariant-loop-alternate l = map view l.values.items ++ map alternate_data (drop l.alternate-index l.alternates) ≡ map alternate_data l.alternates

use Rattle.std.proofs.Common.{◌≡◌, drop}
use Rattle.std.specs.Map.{keys_of}
use Rattle.facts.specs.Index.{first_same}
use Rattle.facts.proofs.same.first_same.Given as goal

abbrev pub invariant-loop-pair : goal.invariant-loop-pair
invariant-loop-pair l = first_same l.text l.minute l.mark l.reports (keys_of (drop l.pair-index l.keys)) ≡ first_same l.text l.minute l.mark l.reports (keys_of l.keys)

use Rattle.std.proofs.Common.{◌≡◌, ◌++◌, drop}
use Rattle.std.specs.Map.{keys_of}
use Rattle.facts.proofs.indexing.valued.Given as goal

abbrev pub invariant-loop-key : goal.invariant-loop-key
invariant-loop-key g l = keys_of l.held.items ++ keys_of (drop l.key-index l.keys) ≡ keys_of l.keys

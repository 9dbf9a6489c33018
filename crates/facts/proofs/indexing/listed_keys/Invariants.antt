use Rattle.std.proofs.Common.{◌≡◌, ◌++◌, map, drop}
use Rattle.facts.specs.Index.{key_entry}
use Rattle.facts.proofs.indexing.listed_keys.Given as goal

abbrev pub invariant-loop-report : goal.invariant-loop-report
invariant-loop-report l = l.keys.items ++ map key_entry (drop l.report-index l.held) ≡ map key_entry l.held

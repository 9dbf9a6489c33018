use Rattle.std.proofs.Common.{◌≡◌, ◌++◌, map, drop}
use Rattle.facts.specs.Index.{station_entry}
use Rattle.facts.proofs.indexing.listed_stations.Given as goal

abbrev pub invariant-loop-report : goal.invariant-loop-report
invariant-loop-report l = l.keys.items ++ map station_entry (drop l.report-index l.held) ≡ map station_entry l.held

use Rattle.facts.proofs.ReindexLaws.{IsIndexed}
use Rattle.facts.proofs.sweeping.index_latest.Given as goal

abbrev pub invariant-loop-place : goal.invariant-loop-place
invariant-loop-place l = IsIndexed l.stations.entries l.held l.place

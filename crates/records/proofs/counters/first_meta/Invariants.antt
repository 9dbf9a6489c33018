use Rattle.std.proofs.Common.{◌≡◌, drop}
use Rattle.records.specs.Faults.{meta_from}
use Rattle.records.proofs.counters.first_meta.Given as goal

abbrev pub invariant-loop-place : goal.invariant-loop-place
invariant-loop-place l = meta_from l.place (drop l.place l.records) ≡ meta_from 0 l.records

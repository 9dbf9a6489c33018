use Rattle.std.proofs.Common.{◌≡◌, drop}
use Rattle.std.specs.List.{position_from}
use Rattle.records.specs.Faults.{is_ahead, place_of}
use Rattle.records.proofs.counters.first_ahead.Given as goal

abbrev pub invariant-loop-place : goal.invariant-loop-place
invariant-loop-place l = position_from (is_ahead l.counters) l.place (drop l.place l.records) ≡ place_of (is_ahead l.counters) l.records

use Rattle.std.proofs.Common.{◌≡◌, drop}
use Rattle.std.specs.List.{position_from}
use Rattle.records.specs.Faults.{is_orphan, place_of}
use Rattle.records.proofs.alone.first_orphan.Given as goal

abbrev pub invariant-loop-place : goal.invariant-loop-place
invariant-loop-place l = position_from (is_orphan l.records) l.place (drop l.place l.records) ≡ place_of (is_orphan l.records) l.records

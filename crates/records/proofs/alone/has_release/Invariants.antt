use Rattle.std.proofs.Common.{◌≡◌, false, take}
use Rattle.std.specs.List.{list_any}
use Rattle.records.specs.Faults.{is_release_of}
use Rattle.records.proofs.alone.has_release.Given as goal

abbrev pub invariant-loop-place : goal.invariant-loop-place
invariant-loop-place l = list_any (is_release_of l.id) (take l.place l.records) ≡ false

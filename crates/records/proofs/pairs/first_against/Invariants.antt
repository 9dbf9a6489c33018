use Rattle.std.proofs.Common.{◌≡◌, false, take}
use Rattle.std.specs.List.{list_any}
use Rattle.records.specs.Faults.{is_bad_pair}
use Rattle.records.proofs.pairs.first_against.Given as goal

abbrev pub invariant-loop-place : goal.invariant-loop-place
invariant-loop-place l = list_any (is_bad_pair l.held) (take l.place l.records) ≡ false

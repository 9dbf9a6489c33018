use Rattle.std.proofs.Common.{◌≡◌, [], take, drop}
use Rattle.records.specs.Faults.{pair_after, is_bad_pair}
use Rattle.records.proofs.pairs.bad_pair.Given as goal

abbrev pub invariant-loop-place : goal.invariant-loop-place
invariant-loop-place l = pair_after is_bad_pair (take l.place l.records) (drop l.place l.records) ≡ pair_after is_bad_pair [] l.records

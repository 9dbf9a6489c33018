use Rattle.std.proofs.Common.{◌≡◌, [], take, drop}
use Rattle.records.specs.Faults.{counts_of, first_after, is_over}
use Rattle.records.proofs.limits.over_limit.Given as goal

abbrev pub invariant-loop-place : goal.invariant-loop-place
invariant-loop-place l = record {
  counted : l.counts ≡ counts_of (take l.place l.records);
  left : first_after is_over (take l.place l.records) (drop l.place l.records) ≡ first_after is_over [] l.records;
}

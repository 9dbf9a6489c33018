use Rattle.std.proofs.Common.{take}
use Rattle.records.specs.Marks.{IsIndex}
use Rattle.records.proofs.marks.index_of.Given as goal

abbrev pub invariant-loop-place : goal.invariant-loop-place
invariant-loop-place l = IsIndex l.firsts.entries (take l.place l.marks)

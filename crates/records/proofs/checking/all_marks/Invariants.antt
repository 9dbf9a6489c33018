use Rattle.std.proofs.Common.{◌≡◌, ◌++◌, map, drop}
use Rattle.records.specs.Marks.{marks_of}
use Rattle.records.proofs.checking.all_marks.Given as goal

abbrev pub invariant-loop-record : goal.invariant-loop-record
invariant-loop-record l = l.marks.items ++ map marks_of (drop l.record-index l.records) ≡ map marks_of l.records

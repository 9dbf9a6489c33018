use Rattle.std.proofs.Common.{◌≡◌, drop, map}
use Rattle.table_files.specs.Reading.{are_same}
use Rattle.table_files.proofs.reading.is_header.Given as goal

abbrev pub invariant-loop-i : goal.invariant-loop-i
invariant-loop-i l = are_same (drop l.i l.fields) (map (λ c. c.now) (drop l.i l.columns)) ≡ are_same l.fields (map (λ c. c.now) l.columns)

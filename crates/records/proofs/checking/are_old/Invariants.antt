use Rattle.std.proofs.Common.{◌≡◌, drop}
use Rattle.records.specs.Reading.{are_old}
use Rattle.records.proofs.checking.are_old.Given as goal

abbrev pub invariant-loop-row : goal.invariant-loop-row
invariant-loop-row l = are_old (drop l.row-index l.rows) ≡ are_old l.rows

use Rattle.std.proofs.Common.{take}
use Rattle.records.specs.Checks.{AreRowsOf}
use Rattle.records.proofs.checking.read_rows.Given as goal

abbrev pub invariant-loop-row : goal.invariant-loop-row
invariant-loop-row l = AreRowsOf l.version (take l.row-index l.rows) l.records.items

use Rattle.std.proofs.Common.{◌≡◌, ◌++◌, map, drop}
use Rattle.sqlite_keeper.specs.Statements.{columns, line_of}
use Rattle.sqlite_keeper.proofs.table.rows_of.Given as goal

abbrev pub invariant-loop-line : goal.invariant-loop-line
invariant-loop-line l = map line_of l.rows.items ++ map columns (drop l.line-index l.lines) ≡ map columns l.lines

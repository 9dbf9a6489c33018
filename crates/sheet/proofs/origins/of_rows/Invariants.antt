use Rattle.std.proofs.Common.{◌≡◌, ◌+◌, ◌++◌, drop}
use Rattle.sheet.specs.Origins.{of_rows}
use Rattle.sheet.proofs.origins.of_rows.Given as goal

abbrev pub invariant-loop-place : goal.invariant-loop-place
invariant-loop-place l =
    l.origins.items ++ of_rows (l.place + 1) (drop l.place l.rows) ≡ of_rows 1 l.rows

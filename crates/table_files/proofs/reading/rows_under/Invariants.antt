use Rattle.std.proofs.Common.{◌≤◌, ◌-◌, ℕ, List, length, All}
use Rattle.csv_text.specs.Records.{HasGiven}
use Rattle.ops_tables.specs.Shown.{shown}
use Rattle.table_files.specs.Passes.{rows_read}
use Rattle.table_files.proofs.Passes.{ReadsOn}
use Rattle.table_files.proofs.Steps.{After}
use Rattle.table_files.proofs.reading.rows_under.Given as goal

abbrev pub invariant-loop-rows : goal.invariant-loop-rows
invariant-loop-rows g l = record {
  after : (text : List ℕ) → (earlier : List (List (List ℕ))) → HasGiven text earlier l.fn.reader
      → After text earlier (rows_read g.R.Row.limit g.R.FileRow.table (shown l.fn.loaded) 0) (ReadsOn g.R.Row.limit g.R.FileRow.table (shown l.fn.loaded) l.rows.items) l.reader;
  within : length l.rows.items ≤ g.R.Row.limit;
  fits : All g.R.Row.Fits l.rows.items;
}

abbrev pub decreases-loop-rows : goal.decreases-loop-rows
decreases-loop-rows g l = g.R.Row.limit - length l.rows.items

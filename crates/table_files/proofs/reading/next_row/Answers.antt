use Rattle.std.proofs.Common.{ℕ, List, Some}
use Rattle.csv_text.specs.Records.{GivesNext}
use Rattle.table_files.proofs.Passes.{row_told}
use Rattle.table_files.proofs.reading.next_row.Goals as goal

pub returns-in_ok-row_at-in-Some-clause-value : goal.returns-in_ok-row_at-in-Some-clause-value
returns-in_ok-row_at-in-Some-clause-value g c = λ text earlier h.
    let most = c.most_fields.result in
    let first : List (List ℕ) = c.in-Some.fields in
    let given : GivesNext most text earlier (Some first) c.next.new.self = rw c.in-Some.is at (c.in_ok-next.ensures.given text earlier h) in
    let row = c.in_ok-row_at-in-Some in (
      given.0,
      given.1,
      row_told g.R.Row.limit g.R.FileRow.table g.met.R.FileRow.told most c.args.count first c.as_slice.result.now given.0 row.field-0
          c.most_fields.ensures given.2 c.as_slice.ensures row.ensures.value,
    )

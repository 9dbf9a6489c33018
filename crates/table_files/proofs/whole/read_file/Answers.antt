use Rattle.table_files.proofs.WholeLaws.{read_for_nothing}
use Rattle.table_files.proofs.whole.read_file.Goals as goal

pub returns-in_err-fill-clause-reads : goal.returns-in_err-fill-clause-reads
returns-in_err-fill-clause-reads g c =
    let is = c.from_residual-in_err-fill.ensures in
    read_for_nothing _ _ _ c.args.file _ _ c.in_ok-text.text _ c.in_ok-text.ensures.reads.2 is.0 is.1

pub returns-in_err-bad_table-in-Err-clause-reads : goal.returns-in_err-bad_table-in-Err-clause-reads
returns-in_err-bad_table-in-Err-clause-reads g c =
    let is = c.from_residual-in_err-bad_table-in-Err.ensures in
    read_for_nothing _ _ _ c.args.file _ _ c.in_ok-text.text _ c.in_ok-text.ensures.reads.2 is.0 is.1

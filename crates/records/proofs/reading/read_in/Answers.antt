use Rattle.records.proofs.RowLaws.{some_has_row, none_has_row, some_again}
use Rattle.records.proofs.reading.read_in.Goals as goal

pub returns-in-Some-clause-reads : goal.returns-in-Some-clause-reads
returns-in-Some-clause-reads c = some_has_row c.args.version c.args.row.now c.in_ok-record.field-0 c.in-Some.record c.in_ok-record.ensures c.in-Some.is

pub returns-in-None-clause-reads : goal.returns-in-None-clause-reads
returns-in-None-clause-reads c = none_has_row c.args.version c.args.row.now c.in_ok-record.field-0 c.in_ok-record.ensures c.in-None.is

pub returns-in-Some-clause-again : goal.returns-in-Some-clause-again
returns-in-Some-clause-again c = some_again c.args.version c.args.row.now c.in_ok-record.field-0 c.in-Some.record c.in_ok-record.ensures c.in-Some.is

pub returns-in-None-clause-again : goal.returns-in-None-clause-again
returns-in-None-clause-again c = none_has_row c.args.version c.args.row.now c.in_ok-record.field-0 c.in_ok-record.ensures c.in-None.is

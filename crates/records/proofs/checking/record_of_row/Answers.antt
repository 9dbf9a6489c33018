use Rattle.std.proofs.Common.{Err, subst}
use Rattle.records.specs.Reading.{ReadsRow}
use Rattle.records.proofs.CheckLaws.{unread}
use Rattle.records.proofs.checking.record_of_row.Goals as goal

pub returns-in-Err-NotCanonical : goal.returns-in-Err-NotCanonical
returns-in-Err-NotCanonical c =
    unread c.args.version c.args.row.now c.bad_row.result c.bad_row.ensures (subst (λ fault. ReadsRow c.args.version c.args.row.now (Err fault)) c.in-Err-NotCanonical.field-0-is c.in-Err-NotCanonical.ensures.reads)

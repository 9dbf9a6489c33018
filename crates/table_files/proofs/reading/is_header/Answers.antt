use Rattle.std.proofs.Common.{sym, arith}
use Rattle.std.proofs.lemmas.Bool.Decides.{nat_tests}
use Rattle.table_files.proofs.Headers.{apart}
use Rattle.table_files.proofs.reading.is_header.Goals as goal

pub returns-then-fields-columns : goal.returns-then-fields-columns
returns-then-fields-columns c = sym (apart c.args.fields.now c.args.columns.now (λ e. grind (arith, nat_tests, e, c.if-fields-columns.true)))

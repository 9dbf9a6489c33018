use Rattle.std.proofs.Common.{length, sym, eq-eqb}
use Rattle.std.specs.Str.Lossy.{utf8_valid_len}
use Rattle.std.proofs.lemmas.Str.{utf8_valid_len-IsUtf8}
use Rattle.imports.proofs.fields.is_text.Goals as goal

pub returns-in-Ok-clause-value : goal.returns-in-Ok-clause-value
returns-in-Ok-clause-value c = sym (eq-eqb (utf8_valid_len c.args.field.now) (length c.args.field.now) (utf8_valid_len-IsUtf8 c.args.field.now c.in-Ok.ensures.cases.1))

use Rattle.std.proofs.Common.{length, sym, eq-eqb}
use Rattle.std.specs.Str.Lossy.{utf8_valid_len}
use Rattle.std.proofs.lemmas.Str.{utf8_valid_len-IsUtf8}
use Rattle.asks.proofs.fields.data_of.Goals as goal

pub returns-in-Ok-from_str : goal.returns-in-Ok-from_str
returns-in-Ok-from_str c =
    let ok = c.in-Ok.ensures.cases in
    let full = eq-eqb (utf8_valid_len c.args.line.now) (length c.args.line.now) (utf8_valid_len-IsUtf8 c.args.line.now ok.1) in
    rw (full, ← ok.0) (sym c.in-Ok-from_str.ensures.ok)

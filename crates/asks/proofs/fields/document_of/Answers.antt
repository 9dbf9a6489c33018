use Rattle.std.proofs.Common.{length, cond, None, sym, ap, ◌∙◌, eq-eqb}
use Rattle.std.specs.Str.Lossy.{utf8_valid_len}
use Rattle.std.proofs.lemmas.Result.{IfOk-weaker}
use Rattle.std.proofs.lemmas.Str.{utf8_valid_len-IsUtf8}
use Rattle.serde_json.specs.Read.{read}
use Rattle.asks.proofs.fields.document_of.Goals as goal

pub returns : goal.returns
returns c =
    let line = c.args.line.now in
    let ok = c.in-Ok.ensures.cases in
    let full = eq-eqb (utf8_valid_len line) (length line) (utf8_valid_len-IsUtf8 line ok.1) in
    IfOk-weaker c.of.result _ _ (λ d is. is ∙ ap read ok.0 ∙ sym (ap (λ b. cond b (read line) None) full)) c.of.ensures

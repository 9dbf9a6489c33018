use Rattle.std.proofs.Common.{◌∙◌}
use Rattle.std.proofs.lemmas.Result.{IfOk-weaker}
use Rattle.records.proofs.NameLaws.{utf8_passes}
use Rattle.records.proofs.kept_rows.utf8_report.Goals as goal

pub returns : goal.returns
returns c =
    IfOk-weaker c.if_report.result _ _ (λ r is. utf8_passes c.args.id c.args.received c.in_ok-text.text c.args.text.now r c.utf8.text (c.in_ok-text.ensures ∙ c.as_bytes.ensures.value) is) c.if_report.ensures

use Rattle.std.proofs.Common.{◌∙◌}
use Rattle.std.proofs.lemmas.Result.{IfOk-weaker}
use Rattle.rules.proofs.SightLaws.{seen_gives_all}
use Rattle.rules.proofs.judgement.findings.Goals as goal

pub returns : goal.returns
returns c = IfOk-weaker c.findings_seen.result _ _ (λ f is. is ∙ seen_gives_all _ _ _ _ c.times_of-times.ensures) c.findings_seen.ensures

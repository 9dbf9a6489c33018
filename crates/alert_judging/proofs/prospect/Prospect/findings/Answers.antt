use Rattle.std.proofs.lemmas.Result.{IfOk-weaker}
use Rattle.alert_judging.proofs.Parts.{finds_the_same}
use Rattle.alert_judging.proofs.prospect.Prospect.findings.Goals as goal

pub returns-clause-value : goal.returns-clause-value
returns-clause-value g c = IfOk-weaker c.judge_by.result _ _ (λ f found. finds_the_same c.args.self.now c.args.plan.now c.args.phase _ f c.evidence.ensures found) c.judge_by.ensures.value

use Rattle.std.proofs.Common.{sym, subst}
use Rattle.std.proofs.lemmas.Result.{IfOk-weaker}
use Rattle.rules.specs.Grounds.{grounds_of}
use Rattle.rules.specs.Judgement.{NamesAll}
use Rattle.rules.specs.Regulation.{FollowRegulation}
use Rattle.rules.proofs.Laws.{findings_name_all}
use Rattle.rules.proofs.RegulationLaws.{findings_follow_regulation}
use Rattle.rules.proofs.judgement.judge_by.Goals as goal

pub returns-clause-complete : goal.returns-clause-complete
returns-clause-complete g c =
    IfOk-weaker c.findings.result _ _ (λ f is. subst (NamesAll c.args.plan.now c.args.phase (grounds_of c.args.evidence)) (sym is) (findings_name_all _ _ _)) c.findings.ensures

pub returns-clause-regulation : goal.returns-clause-regulation
returns-clause-regulation g c =
    IfOk-weaker c.findings.result _ _ (λ f is. subst (FollowRegulation c.args.plan.now c.args.phase (grounds_of c.args.evidence)) (sym is) (findings_follow_regulation _ _ _)) c.findings.ensures

use Rattle.std.proofs.Common.{◌∙◌, ap, sym, subst}
use Rattle.std.proofs.lemmas.Result.{IfOk-weaker}
use Rattle.release_text.specs.Weather.{newer_than}
use Rattle.release_text.specs.Laws.{AreCovered, AreLatest}
use Rattle.release_text.proofs.AttachedLaws.{are_covered, are_latest, newest_attached}
use Rattle.release_text.proofs.attached.attach.Goals as goal

pub returns-clause-covered : goal.returns-clause-covered
returns-clause-covered c =
    IfOk-weaker c.attached_to.result _ _
    (λ list is. subst (λ l. AreCovered c.args.reports.now.reports c.args.plan.now c.args.phase l) (sym is) (are_covered c.args.reports.now.reports c.args.plan.now c.args.phase))
    c.attached_to.ensures

pub returns-clause-latest : goal.returns-clause-latest
returns-clause-latest c =
    IfOk-weaker c.attached_to.result _ _
    (λ list is. subst (λ l. AreLatest c.args.reports.now.reports c.args.plan.now c.args.phase l) (sym is) (are_latest c.args.reports.now.reports c.args.plan.now c.args.phase))
    c.attached_to.ensures

pub returns-clause-newest : goal.returns-clause-newest
returns-clause-newest c =
    IfOk-weaker c.attached_to.result _ _
    (λ list is. ap (λ l. newer_than c.args.reports.now.reports c.args.plan.now c.args.phase l) is ∙ newest_attached c.args.reports.now.reports c.args.plan.now c.args.phase)
    c.attached_to.ensures

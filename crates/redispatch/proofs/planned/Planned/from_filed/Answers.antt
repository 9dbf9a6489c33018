use Rattle.std.proofs.Common.{[], sym, subst}
use Rattle.std.proofs.lemmas.Result.{IfOk-weaker}
use Rattle.std.specs.List.{AllByRecursion}
use Rattle.redispatch.specs.Filed.{HasFormedPlan}
use Rattle.redispatch.proofs.FiledLaws.{each_after}
use Rattle.redispatch.proofs.planned.Planned.from_filed.Goals as goal

pub returns-clause-forms : goal.returns-clause-forms
returns-clause-forms c = λ formed.
    IfOk-weaker c.made_again.result _ _ (λ planned is. subst (AllByRecursion HasFormedPlan) (sym is) (each_after HasFormedPlan [] c.args.filed.items tt formed)) c.made_again.ensures

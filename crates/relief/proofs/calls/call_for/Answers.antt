use Rattle.std.proofs.Common.{ap, ◌∙◌}
use Rattle.std.proofs.lemmas.Result.{IfOk-weaker}
use Rattle.relief.proofs.CallLaws.{for_desk}
use Rattle.relief.proofs.calls.call_for.Goals as goal

pub returns : goal.returns
returns c =
    let a = c.args in
    let person = c.namesake.result.now in
    IfOk-weaker c.renamed.result _ _ (λ made is. for_desk a.tables.now a.desk.now a.call.now made person c.namesake.ensures.value c.namesake.ensures.role c.namesake.ensures.within
    (is ∙ ap (λ key. record a.call.now { actor = a.desk.now; key = key }) c.key.ensures)) c.renamed.ensures

use Rattle.std.proofs.Common.{sym, subst, List, Option, IfSome}
use Rattle.std.proofs.lemmas.Result.{IfOk-weaker}
use Rattle.serde_json.specs.View.{items_view}
use Rattle.plan.specs.Findings.{AreInOrder}
use Rattle.plan.specs.declared.findings.Finding.{Finding}
use Rattle.release_json.proofs.FindingLaws.{findings_ordered}
use Rattle.release_json.proofs.findings.read_findings.Goals as goal

pub returns-clause-order : goal.returns-clause-order
returns-clause-order c =
    IfOk-weaker c.findings_of.result _ _ (λ r is. subst (λ (o : Option (List Finding)). IfSome o AreInOrder) (sym is) (findings_ordered (items_view c.args.items.now))) c.findings_of.ensures

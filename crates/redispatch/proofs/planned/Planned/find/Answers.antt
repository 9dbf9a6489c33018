use Rattle.std.proofs.Common.{subst, sym}
use Rattle.std.specs.List.{AllByRecursion}
use Rattle.redispatch.specs.Filed.{HasFormedPlan, HasPlan}
use Rattle.redispatch.proofs.FiledLaws.{found_is, found_one}
use Rattle.redispatch.proofs.planned.Planned.find.Goals as goal

pub returns-clause-value : goal.returns-clause-value
returns-clause-value c = found_is c.args.release _ _ _ c.self.view_is c.in_ok-filed.ensures

pub returns-clause-plan : goal.returns-clause-plan
returns-clause-plan c = found_one HasPlan c.args.release _ _ c.self.invariant c.in_ok-filed.ensures

pub returns-clause-forms : goal.returns-clause-forms
returns-clause-forms c = λ formed.
    found_one HasFormedPlan c.args.release _ _ (subst (AllByRecursion HasFormedPlan) (sym c.self.view_is) formed) c.in_ok-filed.ensures

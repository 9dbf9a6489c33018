use Rattle.std.proofs.Common.{sym, subst}
use Rattle.std.specs.Prelude.{IfSome}
use Rattle.std.specs.List.{AllByRecursion}
use Rattle.plan.specs.Check.{HasMoments}
use Rattle.rules.proofs.RequiredLaws.{found_has}
use Rattle.rules.proofs.required.leg_of.Goals as goal

pub returns-clause-moments : goal.returns-clause-moments
returns-clause-moments c =
    subst (λ o. IfSome o HasMoments) (sym c.leg_numbered.ensures)
    (found_has c.args.number 1 c.as_slice.result.now (subst (λ legs. AllByRecursion HasMoments legs) (sym c.as_slice.ensures) c.requires.moments))

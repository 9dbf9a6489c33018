use Rattle.std.proofs.Common.{Option, IfSome, sym, subst}
use Rattle.asks.specs.Forms.{CallHasForms}
use Rattle.asks.specs.declared.call.Call.{Call}
use Rattle.scripts.proofs.planned_tests.amends.Goals as goal

pub returns-clause-done : goal.returns-clause-done
returns-clause-done c =
    let formed = subst (λ (o : Option Call). IfSome o CallHasForms) c.in-Some.is (c.in_ok-amendment.ensures.forms c.requires.plans c.requires.forms) in
    subst CallHasForms (sym c.in_ok-of-in-Some.ensures) formed

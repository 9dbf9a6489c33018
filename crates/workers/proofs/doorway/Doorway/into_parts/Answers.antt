use Rattle.std.proofs.Common.{subst}
use Rattle.workers.specs.Doorways.{IsDoorway}
use Rattle.workers.proofs.doorway.Doorway.into_parts.Goals as goal

pub returns-clause-is : goal.returns-clause-is
returns-clause-is g c = subst (λ s. IsDoorway g.D.Door.seen s) c.self.view_is c.self.invariant.1

use Rattle.std.proofs.Common.{subst}
use Rattle.service.specs.Shared.{IsSharedSince, seen_by}
use Rattle.service.proofs.shared.Shared.into_parts.Goals as goal

pub returns-clause-since : goal.returns-clause-since
returns-clause-since g c =
    subst (λ s. IsSharedSince g.A.Opened.desk g.A.Opened.clock (seen_by g.K.Keeper.seen g.B.Bell.seen g.C.Clock.seen s)) c.self.view_is c.self.invariant

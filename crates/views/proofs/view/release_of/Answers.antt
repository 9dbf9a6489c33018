use Rattle.std.proofs.Common.{sym, subst, IfSome, Option}
use Rattle.desk_state.specs.Sound.{ReleaseInBounds}
use Rattle.plan.specs.declared.release.Release.{Release}
use Rattle.views.proofs.Found.{bounded_at}
use Rattle.views.proofs.view.release_of.Goals as goal

pub returns-clause-bounds : goal.returns-clause-bounds
returns-clause-bounds c = subst (λ (o : Option Release). IfSome o ReleaseInBounds) (sym c.release.ensures) (bounded_at c.args.id _ c.holds.ensures.bounds.releases)

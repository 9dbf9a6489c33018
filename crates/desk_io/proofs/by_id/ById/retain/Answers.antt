use Rattle.std.proofs.Common.{ap, ◌∙◌}
use Rattle.std.specs.List.{filter}
use Rattle.desk_io.proofs.ByIdEdits.{rising_part, filtered}
use Rattle.desk_io.proofs.by_id.ById.retain.Goals as goal

pub invariant_of-self : goal.invariant_of-self
invariant_of-self g c = rising_part g.T.HasId.id_of _ _ _ _ c.retain.ensures.filtered c.self.invariant

pub returns-clause-list : goal.returns-clause-list
returns-clause-list g c p computes = filtered _ p _ _ _ c.retain.ensures.filtered computes ∙ ap (λ s. filter p s.list) c.self.view_is

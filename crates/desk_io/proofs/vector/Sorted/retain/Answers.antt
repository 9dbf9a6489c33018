use Rattle.std.proofs.Common.{ap, ◌∙◌}
use Rattle.std.specs.List.{filter}
use Rattle.desk_io.proofs.ByIdEdits.{filtered}
use Rattle.desk_io.proofs.SortedEdits.{sorted_kept}
use Rattle.desk_io.proofs.vector.Sorted.retain.Goals as goal

pub invariant_of-self : goal.invariant_of-self
invariant_of-self g c = sorted_kept g.K.Ord.cmp _ _ _ _ c.retain.ensures.filtered c.self.invariant

pub returns-clause-entries : goal.returns-clause-entries
returns-clause-entries g c p computes = filtered _ p _ _ _ c.retain.ensures.filtered computes ∙ ap (λ s. filter p s.entries) c.self.view_is

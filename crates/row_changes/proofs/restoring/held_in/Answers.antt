use Rattle.row_changes.proofs.RestoringLaws.{may_hold}
use Rattle.row_changes.proofs.restoring.held_in.Goals as goal

pub held_of-requires : goal.held_of-requires
held_of-requires c = may_hold _ _ c.requires (c.in_ok-parts_of.ensures {u = tt})

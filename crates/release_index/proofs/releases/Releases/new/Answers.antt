use Rattle.release_index.proofs.HeldLaws.{none_held}
use Rattle.release_index.proofs.releases.Releases.new.Goals as goal

pub invariant_of-result : goal.invariant_of-result
invariant_of-result c = (none_held _ _ _ _ _ c.new.ensures c.new-2.ensures c.new-3.ensures c.new-4.ensures, tt)

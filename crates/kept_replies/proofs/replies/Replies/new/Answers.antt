use Rattle.kept_replies.proofs.HeldLaws.{none_held}
use Rattle.kept_replies.proofs.replies.Replies.new.Goals as goal

pub invariant_of-result : goal.invariant_of-result
invariant_of-result c = none_held _ _ _ _ c.new.ensures c.new-2.ensures c.new-3.ensures

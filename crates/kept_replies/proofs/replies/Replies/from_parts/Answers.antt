use Rattle.kept_replies.proofs.HeldLaws.{parts_held}
use Rattle.kept_replies.proofs.replies.Replies.from_parts.Goals as goal

pub invariant_of-result : goal.invariant_of-result
invariant_of-result c = parts_held c.args.kept.items _ _ _ _ c.args.floors c.from_vec.ensures c.as_slice.ensures.value c.in_ok-requests.ensures c.requires.floors

use Rattle.kept_replies.specs.Requests.{is_since}
use Rattle.kept_replies.proofs.HeldLaws.{held_swept, swept_seen}
use Rattle.kept_replies.proofs.replies.Replies.sweep.Goals as goal

pub invariant_of-self : goal.invariant_of-self
invariant_of-self c =
    held_swept (is_since c.args.before) c.self.inside.held.list c.keep_since.new.kept.list _ _ c.self.inside.requests c.keep_leading.new.self
    c.self.inside.floors c.args.floors c.self.inside.room c.as_slice.ensures.rising c.keep_since.ensures.list c.keep_since.ensures.room
    c.keep_leading.ensures.under c.keep_leading.ensures.room c.requires c.self.invariant

pub returns : goal.returns
returns c = swept_seen c.args.before _ _ _ c.args.floors _ _ c.self.view_is c.keep_since.ensures.list

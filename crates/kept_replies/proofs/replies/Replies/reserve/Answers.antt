use Rattle.std.proofs.Common.{arith}
use Rattle.kept_replies.proofs.HeldLaws.{held_room}
use Rattle.kept_replies.proofs.replies.Replies.reserve.Goals as goal

pub invariant_of-self-in_err-reserve-2 : goal.invariant_of-self-in_err-reserve-2
invariant_of-self-in_err-reserve-2 c =
    held_room c.self.inside.held.list c.reserve.new.self.list _ _ c.self.inside.requests c.reserve-2.new.self c.self.inside.floors c.self.inside.room c.self.inside.room
    c.reserve.ensures.same c.reserve-2.ensures.same
    (λ e. let has = c.self.invariant.has_room e in let more = c.reserve.ensures.kept in (let one = has.0 in omega (arith, more, one), c.reserve-2.ensures.kept has.1)) c.self.invariant

use Rattle.std.proofs.Common.{ap, sym, subst, arith}
use Rattle.std.specs.Prelude.{IsTrue}
use Rattle.kept_replies.proofs.HeldLaws.{held_with, pushed_seen}
use Rattle.kept_replies.proofs.replies.Replies.push_reserved.Goals as goal

pub put_reserved-requires : goal.put_reserved-requires
put_reserved-requires c = let has = c.self.invariant.has_room (subst IsTrue (sym (ap (λ s. s.room) c.self.view_is)) c.requires.room) in has.1

pub push_reserved-requires-clause-room : goal.push_reserved-requires-clause-room
push_reserved-requires-clause-room c = let has = c.self.invariant.has_room (subst IsTrue (sym (ap (λ s. s.room) c.self.view_is)) c.requires.room) in omega (arith, has.0)

pub invariant_of-self : goal.invariant_of-self
invariant_of-self c =
    held_with c.self.inside.held.list c.push_reserved.new.self.list _ _ c.args.reply c.key_of.result
    c.self.inside.requests c.put_reserved.new.self c.self.inside.floors c.self.inside.room
    c.key_of.ensures c.push_reserved.ensures.list c.put_reserved.ensures c.self.invariant

pub returns : goal.returns
returns c = pushed_seen c.args.reply _ _ _ _ _ c.self.view_is c.push_reserved.ensures.list

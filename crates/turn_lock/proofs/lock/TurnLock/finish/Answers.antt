use Rattle.std.proofs.Common.{rules, sym, ap, ◌∙◌}
use Rattle.turn_lock.specs.Views.{ticket_of}
use Rattle.turn_lock.proofs.StateLaws.{empty_at_end, not_some}
use Rattle.turn_lock.proofs.StepLaws.{lowers}
use Rattle.turn_lock.proofs.lock.TurnLock.finish.Goals as goal

pub load-requires : goal.load-requires
load-requires g c = (search rules, search rules, lowers _ _ _ _ (ticket_of c.args.turn.place.seat.me.0.stage) _ c.args.turn.place.out.1 c.args.turn.place.out.0)

pub unreachable-requires : goal.unreachable-requires
unreachable-requires g c =
    let cleared = c.load.ensures.2 in
    not_some c.take.result c.in-Some.field-0
    (sym c.take.ensures.value
    ∙ empty_at_end g.T.Listed.list g.T.Listed.bears _ (ticket_of c.args.turn.place.seat.me.0.stage) c.load.new.seat.me.0 _ _ (ap (λ v. v.stage) cleared.0) c.close_with-closed.ensures.values.2) c.in-Some.is

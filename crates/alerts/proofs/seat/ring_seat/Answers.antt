use Rattle.std.proofs.Common.{arith, sym}
use Rattle.alerts.specs.Ringing.{hung}
use Rattle.alerts.proofs.RungLaws.{rung_next}
use Rattle.alerts.proofs.seat.ring_seat.Goals as goal

pub loop-notice-preserved : goal.loop-notice-preserved
loop-notice-preserved g c =
    let within = c.loop-notice-test.true in
    rung_next (g.S.Seating.sitter_of c.args.seating.now) c.args.notices.now c.loop-notice.notice-index c.notice-item.result (hung g.B.Bell.seen c.args.seat.now) (hung g.B.Bell.seen c.loop-notice.seat)
    (hung g.B.Bell.seen c.ring_one.new.seat) (omega (arith, within)) (sym c.notice-item.is) c.loop-notice.invariant c.ring_one.ensures

use Rattle.std.proofs.Common.{arith}
use Rattle.alerts.specs.Ringing.{IsRungFor, due, hung}
use Rattle.alerts.proofs.RungLaws.{up_to_next, up_to_end}
use Rattle.alerts.proofs.seat.ring_seats.Goals as goal

pub loop-seat-preserved : goal.loop-seat-preserved
loop-seat-preserved g c =
    let within = c.loop-seat-test.true in
    let long = c.loop-seat.auto.seats in
    up_to_next (λ a b. IsRungFor (due (g.S.Seating.sitter_of c.args.seating.now) c.args.notices.now) (hung g.B.Bell.seen a) (hung g.B.Bell.seen b)) c.loop-seat.seat-index c.args.seats.now c.loop-seat.seats
    c.seat-item.result c.ring_seat.new.seat c.loop-seat.invariant (omega (arith, within, long)) c.ring_seat.ensures

pub returns : goal.returns
returns g c =
    let past = c.loop-seat-test.false in
    let up = c.loop-seat.auto.seat-index-end in
    let long = c.loop-seat.auto.seats in
    up_to_end (IsRungFor (due (g.S.Seating.sitter_of c.args.seating.now) c.args.notices.now)) (hung g.B.Bell.seen) c.loop-seat.seat-index c.args.seats.now c.loop-seat.seats (omega (arith, past, up, long)) c.loop-seat.invariant

use Rattle.alerts.specs.Ringing.{IsRungFor, due, hung}
use Rattle.alerts.proofs.RungLaws.{UpTo}
use Rattle.alerts.proofs.seat.ring_seats.Given as goal

abbrev pub invariant-loop-seat : goal.invariant-loop-seat
invariant-loop-seat g l =
    UpTo (λ a b. IsRungFor (due (g.S.Seating.sitter_of l.seating) l.notices) (hung g.B.Bell.seen a) (hung g.B.Bell.seen b)) l.seat-index l.initial.seats l.seats

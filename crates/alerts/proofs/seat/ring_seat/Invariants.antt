use Rattle.std.proofs.Common.{take}
use Rattle.alerts.specs.Ringing.{IsRungFor, due, hung}
use Rattle.alerts.proofs.seat.ring_seat.Given as goal

abbrev pub invariant-loop-notice : goal.invariant-loop-notice
invariant-loop-notice g l =
    IsRungFor (due (g.S.Seating.sitter_of l.seating) (take l.notice-index l.notices)) (hung g.B.Bell.seen l.initial.seat) (hung g.B.Bell.seen l.seat)

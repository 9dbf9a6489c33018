use Rattle.std.proofs.Common.{◌≡◌, ◌++◌, ◌+◌, ◌≤◌, map, vec_len, vec_capacity}
use Rattle.std.specs.VecDeque.{deque_len}
use Rattle.alerts.specs.Ringing.{hung_all, fresh_from}
use Rattle.alerts.proofs.ringer.seated.Given as goal

abbrev pub invariant-loop-bell : goal.invariant-loop-bell
invariant-loop-bell g l =
    (hung_all g.B.Bell.seen l.seats.items ++ fresh_from (vec_len l.seats) (map g.B.Bell.seen l.left.items)
    ≡ fresh_from 0 (map g.B.Bell.seen l.fn.bells.items))
    × (vec_len l.seats + deque_len l.left ≡ vec_len l.fn.bells)
    × (vec_len l.fn.bells ≤ vec_capacity l.seats)

abbrev pub decreases-loop-bell : goal.decreases-loop-bell
decreases-loop-bell g l = deque_len l.left

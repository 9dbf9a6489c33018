use Rattle.std.proofs.Common.{◌≡◌, ◌++◌, ◌+◌, ◌≤◌, map, vec_len, vec_capacity}
use Rattle.std.specs.VecDeque.{deque_len}
use Rattle.alerts.specs.Ringing.{hung_all, staying, dropped, dropped_seen}
use Rattle.alerts.proofs.ringer.Ringer.finish.Given as goal

abbrev pub invariant-loop-seat : goal.invariant-loop-seat
invariant-loop-seat g l =
    (map g.B.Bell.seen l.bells.items ++ staying (hung_all g.B.Bell.seen l.left.items)
    ≡ staying (hung_all g.B.Bell.seen l.fn.self))
    × (map (dropped_seen g.B.Bell.seen) l.gone.items ++ dropped (hung_all g.B.Bell.seen l.left.items)
    ≡ dropped (hung_all g.B.Bell.seen l.fn.self))
    × (vec_len l.bells + deque_len l.left ≤ vec_capacity l.bells)
    × (vec_len l.gone + deque_len l.left ≤ vec_capacity l.gone)

abbrev pub decreases-loop-seat : goal.decreases-loop-seat
decreases-loop-seat g l = deque_len l.left

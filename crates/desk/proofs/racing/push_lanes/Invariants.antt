use Rattle.std.proofs.Common.{◌≡◌, ◌++◌, ◌+◌, drop}
use Rattle.desk.specs.Race.{lanes_text}
use Rattle.desk.proofs.racing.push_lanes.Given as goal

abbrev pub invariant-loop-i : goal.invariant-loop-i
invariant-loop-i l = l.out.items ++ lanes_text (l.i + 1) (drop l.i l.lanes) ≡ l.fn.out.items ++ lanes_text 1 l.lanes

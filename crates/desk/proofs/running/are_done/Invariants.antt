use Rattle.std.proofs.Common.{◌≡◌, drop}
use Rattle.std.specs.List.{list_all}
use Rattle.desk.specs.Merge.{is_done}
use Rattle.desk.proofs.running.are_done.Given as goal

abbrev pub invariant-loop-lane : goal.invariant-loop-lane
invariant-loop-lane l = list_all is_done (drop l.lane-index l.lanes) ≡ list_all is_done l.lanes

use Rattle.std.proofs.Common.{◌≡◌, ◌++◌, map, drop}
use Rattle.desk.specs.Race.{lane_of}
use Rattle.desk.proofs.racing.lanes_of.Given as goal

abbrev pub invariant-loop-script : goal.invariant-loop-script
invariant-loop-script l = l.lanes.items ++ map lane_of (drop l.script-index l.scripts) ≡ map lane_of l.scripts

use Rattle.std.proofs.Common.{◌≡◌, ◌++◌, drop}
use Rattle.desk_state.specs.Events.{notices_of}
use Rattle.alert_judging.proofs.changes.notices_of.Given as goal

abbrev pub invariant-loop-change : goal.invariant-loop-change
invariant-loop-change l = l.out ++ notices_of (drop l.change-index l.changes) ≡ notices_of l.changes

use Rattle.std.proofs.Common.{◌≡◌, ◌++◌, take, drop}
use Rattle.alerts.specs.Alerts.{with_finding}
use Rattle.alerts.proofs.alert.place_of.Given as goal

abbrev pub invariant-loop-i : goal.invariant-loop-i
invariant-loop-i l = take l.i l.findings ++ with_finding l.finding (drop l.i l.findings) ≡ with_finding l.finding l.findings

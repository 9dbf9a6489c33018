use Rattle.std.proofs.Common.{◌≡◌, drop}
use Rattle.alerts.specs.Alerts.{are_same}
use Rattle.alerts.proofs.alert.are_same.Given as goal

abbrev pub invariant-loop-a : goal.invariant-loop-a
invariant-loop-a l = are_same (drop l.a-index l.one) l.left ≡ are_same l.one l.two

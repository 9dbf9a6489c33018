use Rattle.std.proofs.Common.{◌≡◌, drop}
use Rattle.alerts.specs.Alerts.{with_findings}
use Rattle.alerts.proofs.alert.with_findings.Given as goal

abbrev pub invariant-loop-finding : goal.invariant-loop-finding
invariant-loop-finding l = with_findings l.all.items (drop l.finding-index l.findings) ≡ with_findings l.ever l.findings

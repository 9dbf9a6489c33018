use Rattle.std.proofs.Common.{◌≡◌, drop}
use Rattle.plan.specs.Findings.{is_among}
use Rattle.records.proofs.alert_rows.is_among.Given as goal

abbrev pub invariant-loop-other : goal.invariant-loop-other
invariant-loop-other l = is_among (drop l.other-index l.findings) l.finding ≡ is_among l.findings l.finding

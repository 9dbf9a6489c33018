use Rattle.std.proofs.Common.{◌≡◌, drop}
use Rattle.records.specs.Valid.{are_among}
use Rattle.records.proofs.alert_rows.are_among.Given as goal

abbrev pub invariant-loop-finding : goal.invariant-loop-finding
invariant-loop-finding l = are_among l.others (drop l.finding-index l.findings) ≡ are_among l.others l.findings

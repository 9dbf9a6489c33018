use Rattle.std.proofs.Common.{◌≡◌, ◌++◌, drop}
use Rattle.decisions.specs.Attached.{ids_among}
use Rattle.decisions.proofs.sweeps.reports_among.Given as goal

abbrev pub invariant-loop-report : goal.invariant-loop-report
invariant-loop-report l = l.ids ++ ids_among l.among (drop l.report-index l.reports) ≡ ids_among l.among l.reports

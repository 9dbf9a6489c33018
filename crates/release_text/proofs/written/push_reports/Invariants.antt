use Rattle.std.proofs.Common.{◌≡◌, ◌++◌, drop}
use Rattle.release_text.specs.Text.{report_lines}
use Rattle.release_text.proofs.written.push_reports.Given as goal

abbrev pub invariant-loop-report : goal.invariant-loop-report
invariant-loop-report l = l.out.items ++ report_lines (drop l.report-index l.attached) ≡ l.fn.out.items ++ report_lines l.attached

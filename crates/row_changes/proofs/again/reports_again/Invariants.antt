use Rattle.std.proofs.Common.{◌≡◌, ◌++◌}
use Rattle.std.specs.List.{AllByRecursion, filter_map}
use Rattle.std.specs.Vec.Iter.{into_iter_items}
use Rattle.row_changes.specs.Held.{report_of}
use Rattle.records.specs.Valid.{IsReport}
use Rattle.row_changes.proofs.again.reports_again.Given as goal

abbrev pub invariant-loop-report : goal.invariant-loop-report
invariant-loop-report l = record {
  made : l.reports.items ++ filter_map report_of (into_iter_items l.report-iterator) ≡ filter_map report_of l.fn.kept.items;
  valid : AllByRecursion IsReport (into_iter_items l.report-iterator);
}

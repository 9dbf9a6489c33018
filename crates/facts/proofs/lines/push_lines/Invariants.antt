use Rattle.std.proofs.Common.{◌≡◌, ◌++◌, drop}
use Rattle.std.specs.Map.{keys_of}
use Rattle.desk_io.specs.Grown.{BeginsWith}
use Rattle.facts.specs.Lines.{lines_for}
use Rattle.facts.proofs.lines.push_lines.Given as goal

abbrev pub invariant-loop-station : goal.invariant-loop-station
invariant-loop-station l = record {
  lines : l.out.items ++ lines_for (keys_of (drop l.station-index l.stations)) l.reports.reports ≡ l.fn.out.items ++ lines_for (keys_of l.stations) l.reports.reports;
  begins : BeginsWith l.out.items l.fn.out.items;
}

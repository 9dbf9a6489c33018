use Rattle.std.proofs.Common.{ℕ, List}
use Rattle.std.specs.List.{AllByRecursion}
use Rattle.csv_text.specs.Records.{HasGiven}
use Rattle.imports.specs.Records.{HasForms}
use Rattle.imports.proofs.LineLaws.{Seen}
use Rattle.imports.proofs.lines.lines_left.Given as goal

abbrev pub invariant-loop : goal.invariant-loop
invariant-loop l = record {
  seen : (text : List ℕ) → (earlier : List (List (List ℕ))) → HasGiven text earlier l.fn.reader → Seen text earlier l.reader l.lines.items;
  forms : AllByRecursion HasForms l.lines.items;
}

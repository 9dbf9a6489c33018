use Rattle.std.proofs.Common.{◌≡◌, ◌++◌, drop}
use Rattle.std.specs.List.{AllByRecursion}
use Rattle.desk.specs.Race.{lines_text}
use Rattle.desk.specs.Shown.{IsShown}
use Rattle.desk.proofs.racing.push_lines.Given as goal

abbrev pub invariant-loop-outcome : goal.invariant-loop-outcome
invariant-loop-outcome l = record {
  lines : l.out.items ++ lines_text (drop l.outcome-index l.outcomes) ≡ l.fn.out.items ++ lines_text l.outcomes;
  rest : AllByRecursion IsShown (drop l.outcome-index l.outcomes);
}

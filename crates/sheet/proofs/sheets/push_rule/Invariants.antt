use Rattle.std.proofs.Common.{◌≡◌, ◌+◌, ◌++◌, drop}
use Rattle.std.specs.List.{AllByRecursion}
use Rattle.std.specs.Option.{option_copied, option_map}
use Rattle.plan.specs.Check.{HasMoments}
use Rattle.sheet.specs.Circumstances.{case_by}
use Rattle.sheet.specs.Sheet.{lines_with, lines_from}
use Rattle.sheet.proofs.sheets.push_rule.Given as goal

abbrev pub invariant-loop-i : goal.invariant-loop-i
invariant-loop-i l = record {
  lines : l.sheet ++ lines_from (lines_with l.times (option_map case_by (option_copied l.circumstances))) l.rule (l.i + 1) (drop l.i l.legs)
      ≡ l.fn.sheet ++ lines_from (lines_with l.times (option_map case_by (option_copied l.circumstances))) l.rule 1 l.legs;
  moments : AllByRecursion HasMoments (drop l.i l.legs);
}

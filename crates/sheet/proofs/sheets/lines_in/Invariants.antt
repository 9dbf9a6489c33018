use Rattle.std.proofs.Common.{◌≡◌, ◌++◌, drop}
use Rattle.std.specs.Option.{option_copied, option_map}
use Rattle.sheet.specs.Circumstances.{case_by}
use Rattle.sheet.specs.Sheet.{lines_with, lines_by}
use Rattle.sheet.proofs.sheets.lines_in.Given as goal

abbrev pub invariant-loop-rule : goal.invariant-loop-rule
invariant-loop-rule l =
    l.sheet ++ lines_by (lines_with l.times (option_map case_by (option_copied l.circumstances))) (drop l.rule-index l.rules) l.legs
    ≡ lines_by (lines_with l.times (option_map case_by (option_copied l.circumstances))) l.rules l.legs

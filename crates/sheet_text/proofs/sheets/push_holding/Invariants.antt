use Rattle.std.proofs.Common.{◌≡◌, ◌++◌, drop}
use Rattle.std.specs.Prelude.{filter}
use Rattle.sheet.specs.Lines.{holds}
use Rattle.sheet_text.specs.Text.{lines_text}
use Rattle.sheet_text.proofs.sheets.push_holding.Given as goal

abbrev pub invariant-loop-line : goal.invariant-loop-line
invariant-loop-line l = l.out.items ++ lines_text (filter holds (drop l.line-index l.lines)) ≡ l.initial.out.items ++ lines_text (filter holds l.lines)

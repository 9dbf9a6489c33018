use Rattle.std.proofs.Common.{◌≡◌, ◌++◌, drop}
use Rattle.sheet_text.specs.Text.{lines_text}
use Rattle.sheet_text.proofs.text.sheet_text.Given as goal

abbrev pub invariant-loop-line : goal.invariant-loop-line
invariant-loop-line l = l.out.items ++ lines_text (drop l.line-index l.lines) ≡ lines_text l.lines

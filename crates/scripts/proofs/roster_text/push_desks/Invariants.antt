use Rattle.std.proofs.Common.{◌≡◌, ◌++◌, drop}
use Rattle.scripts.specs.RosterTexts.{desks_text}
use Rattle.scripts.proofs.roster_text.push_desks.Given as goal

abbrev pub invariant-loop-line : goal.invariant-loop-line
invariant-loop-line l = l.out.items ++ desks_text (drop l.line-index l.lines) ≡ l.fn.out.items ++ desks_text l.lines

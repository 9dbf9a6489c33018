use Rattle.std.proofs.Common.{◌≡◌, ◌++◌, drop}
use Rattle.release_text.specs.Text.{alternate_lines}
use Rattle.release_text.proofs.written.push_each_alternate.Given as goal

abbrev pub invariant-loop-alternate : goal.invariant-loop-alternate
invariant-loop-alternate l = l.out.items ++ alternate_lines (drop l.alternate-index l.alternates) ≡ l.fn.out.items ++ alternate_lines l.alternates

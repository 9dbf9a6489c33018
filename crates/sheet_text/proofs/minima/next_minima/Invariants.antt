use Rattle.std.proofs.Common.{◌≡◌, ◌++◌, drop}
use Rattle.sheet_text.specs.Text.{next_minima}
use Rattle.sheet_text.proofs.minima.next_minima.Given as goal

abbrev pub invariant-loop-pair : goal.invariant-loop-pair
invariant-loop-pair l = l.out.items ++ next_minima (drop l.pair-index l.pairs) l.rest ≡ next_minima l.pairs l.origins

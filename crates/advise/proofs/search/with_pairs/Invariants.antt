use Rattle.std.proofs.Common.{◌≡◌, drop}
use Rattle.std.specs.Prelude.{fold}
use Rattle.advise.specs.Search.{pairs, cheaper}
use Rattle.advise.proofs.search.with_pairs.Given as goal

abbrev pub invariant-loop-i : goal.invariant-loop-i
invariant-loop-i l = fold cheaper l.best (pairs l.i (drop l.i l.alone)) ≡ fold cheaper l.initial.best (pairs 0 l.alone)

use Rattle.std.proofs.Common.{◌≡◌, drop}
use Rattle.std.specs.Prelude.{fold}
use Rattle.advise.specs.Search.{singles, cheaper}
use Rattle.advise.proofs.search.with_singles.Given as goal

abbrev pub invariant-loop-i : goal.invariant-loop-i
invariant-loop-i l = fold cheaper l.best (singles l.i (drop l.i l.alone)) ≡ fold cheaper l.initial.best (singles 0 l.alone)

use Rattle.std.proofs.Common.{◌≡◌, ◌+◌, drop}
use Rattle.std.specs.Prelude.{fold}
use Rattle.advise.specs.Search.{pairs_of, cheaper}
use Rattle.advise.proofs.search.with_pairs_of.Given as goal

abbrev pub invariant-loop-i : goal.invariant-loop-i
invariant-loop-i l =
    fold cheaper l.best (pairs_of l.place l.first (l.place + 1 + l.i) (drop l.i l.later)) ≡ fold cheaper l.initial.best (pairs_of l.place l.first (l.place + 1) l.later)

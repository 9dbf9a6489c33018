use Rattle.std.proofs.Common.{◌≡◌, length}
use Rattle.records.specs.Valid.{are_rising}
use Rattle.records.proofs.meta_rows.are_rising.Given as goal

abbrev pub invariant-loop-left : goal.invariant-loop-left
invariant-loop-left l = are_rising l.left ≡ are_rising l.floors

abbrev pub decreases-loop-left : goal.decreases-loop-left
decreases-loop-left l = length l.left

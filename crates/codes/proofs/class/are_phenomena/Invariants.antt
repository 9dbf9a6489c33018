use Rattle.std.proofs.Common.{◌≡◌, length}
use Rattle.codes.specs.Class.{are_phenomena}
use Rattle.codes.proofs.class.are_phenomena.Given as goal

abbrev pub invariant-loop-rest : goal.invariant-loop-rest
invariant-loop-rest l = are_phenomena l.rest ≡ are_phenomena l.text

abbrev pub decreases-loop-rest : goal.decreases-loop-rest
decreases-loop-rest l = length l.rest

use Rattle.desk_io.specs.Pair.{AreWithin}
use Rattle.call_vectors.proofs.operations.pairs_at.Given as goal

abbrev pub invariant-loop-item : goal.invariant-loop-item
invariant-loop-item l = AreWithin 20_000 16_093_440 l.pairs

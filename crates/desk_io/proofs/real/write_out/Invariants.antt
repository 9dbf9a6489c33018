use Rattle.std.proofs.Common.{length}
use Rattle.desk_io.proofs.Writing.{Grew}
use Rattle.desk_io.proofs.real.write_out.Given as goal

abbrev pub invariant-loop-rest : goal.invariant-loop-rest
invariant-loop-rest g l = Grew l.fn.taken.list l.taken.list l.bytes l.rest

abbrev pub decreases-loop-rest : goal.decreases-loop-rest
decreases-loop-rest g l = length l.rest

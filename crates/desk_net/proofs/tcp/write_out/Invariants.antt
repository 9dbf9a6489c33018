use Rattle.std.proofs.Common.{length}
use Rattle.desk_net.proofs.Sending.{Sent}
use Rattle.desk_net.proofs.tcp.write_out.Given as goal

abbrev pub invariant-loop-rest : goal.invariant-loop-rest
invariant-loop-rest g l = Sent l.fn.taken.list l.taken.list l.bytes l.rest (g.S.Write.contents l.fn.stream) (g.S.Write.contents l.stream)

abbrev pub decreases-loop-rest : goal.decreases-loop-rest
decreases-loop-rest g l = length l.rest

-- The keeper in memory may go to another thread.
use denote.RattleType.{RattleType}
use denote.Param.Send.{IsSend, sendable}
use Rattle.std.proofs.Crossing.{crosses}
use Rattle.desk_io.specs.contracts.record.Record as recorded
use Rattle.keeper.specs.contracts.memory.MemoryKeeper.{the_row}

pub Record_send : (T : RattleType) → IsSend (recorded.the_row T)
Record_send T = record { owned = λ d vs. ((λ vss. (tt, ((λ uss. (tt, tt)), tt))), tt); leaving = λ k f vs. tt }

pub MemoryKeeper_send : IsSend the_row
MemoryKeeper_send = search (sendable, crosses, Record_send) depth 60 fits 9000

-- The objects in memory may go to another thread.
use denote.RattleType.{RattleType}
use denote.Param.Send.{IsSend, sendable}
use Rattle.std.proofs.Crossing.{crosses}
use Rattle.desk_io.specs.contracts.record.Record as recorded
use Rattle.desk_net.specs.contracts.memory_clock.MemoryClock as clock
use Rattle.desk_net.specs.contracts.memory_link.MemoryLink as link
use Rattle.desk_net.specs.contracts.memory_door.MemoryDoor as door
use Rattle.desk_net.specs.contracts.system_clock.SystemClock as system
use Rattle.desk_net.specs.contracts.tcp.TcpLink as tcp

pub MemoryClock_send : IsSend clock.the_row
MemoryClock_send = search (sendable, crosses) depth 60 fits 5000

pub MemoryLink_send : IsSend link.the_row
MemoryLink_send = search (sendable, crosses) depth 60 fits 5000

Record_send : (T : RattleType) → IsSend (recorded.the_row T)
Record_send T = record { owned = λ d vs. ((λ vss. (tt, ((λ uss. (tt, tt)), tt))), tt); leaving = λ k f vs. tt }

MemoryLink_field_send : IsSend (link.the_field).row
MemoryLink_field_send = search (sendable, crosses) depth 60 fits 5000

pub MemoryDoor_send : IsSend door.the_row
MemoryDoor_send = search (sendable, crosses, Record_send, MemoryLink_field_send) depth 60 fits 9000

-- So may those over the system, where what they stand on may.
pub SystemClock_send : (R : RattleType) → IsSend R → IsSend (system.the_row R)
SystemClock_send R r = search (sendable, crosses) depth 60 fits 5000

pub TcpLink_send : (S C : RattleType) → IsSend S → IsSend C → IsSend (tcp.the_row S C)
TcpLink_send S C s c = search (sendable, crosses) depth 60 fits 5000

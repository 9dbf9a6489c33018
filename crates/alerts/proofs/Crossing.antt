-- Alerts may go to another thread, and so may who rings bells, where these may.
use denote.RattleType.{RattleType}
use denote.Param.Send.{IsSend, sendable}
use Rattle.std.proofs.Crossing.{crosses}
use Rattle.desk_io.proofs.Crossing.{Text_send}
use Rattle.plan.proofs.Crossing.{Finding_send}
use Rattle.alerts.specs.contracts.alert.Alert as Alert
use Rattle.alerts.specs.contracts.ringer.Ringer as Ringer
use Rattle.alerts.specs.contracts.memory_bell.MemoryBell as MemoryBell

pub Ringer_field_send : (B : RattleType) → IsSend B → IsSend (Ringer.the_field B).row
Ringer_field_send B s = search (sendable, crosses) depth 60 fits 9000

pub MemoryBell_send : IsSend MemoryBell.the_row
MemoryBell_send = search (sendable, crosses) depth 60 fits 9000

pub Alert_send : IsSend Alert.the_row
Alert_send = search (sendable, crosses, Text_send, Finding_send) depth 60 fits 9000

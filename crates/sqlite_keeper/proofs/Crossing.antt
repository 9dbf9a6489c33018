-- A keeper over a file may go to another thread if its connection may.
use denote.RattleType.{RattleType}
use denote.Param.Send.{IsSend, sendable}
use Rattle.std.proofs.Crossing.{crosses}
use Rattle.keeper.proofs.Crossing.{Record_send}
use Rattle.sqlite_keeper.specs.contracts.file.KeeperOver as KeeperOver

pub KeeperOver_send : (C : RattleType) → IsSend C → IsSend (KeeperOver.the_row C)
KeeperOver_send C c = search (sendable, crosses, Record_send) depth 60 fits 9000

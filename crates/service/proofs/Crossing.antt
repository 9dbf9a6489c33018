-- A desk that is shared may go to another thread.
use denote.RattleType.{RattleType}
use denote.Param.Send.{IsSend, sendable}
use Rattle.std.proofs.Crossing.{crosses}
use Rattle.alerts.specs.declared.bell.Bell as Bell
use Rattle.desk.proofs.Crossing.{Desk_send}
use Rattle.desk_net.specs.declared.outside.Clock as Clock
use Rattle.keeper.specs.declared.keeping.Keeper as Keeper
use Rattle.service.specs.contracts.event_list.Events as Events
use Rattle.service.specs.contracts.shared.Shared as Shared
use Rattle.service.specs.declared.opened.Opened as Opened
use Rattle.workers.proofs.Crossing.{Record_send}

Events_send : IsSend (Events.the_field).row
Events_send = search (sendable, crosses, Record_send) depth 60 fits 5000

pub Shared_send : (K B C A : RattleType) → IsSend K → IsSend B → IsSend C → IsSend A → (k : Keeper.Ghosts K.Denot) → (b : Bell.Ghosts B.Denot) → (c : Clock.Ghosts C.Denot) → (a : Opened.Ghosts A.Denot)
    → IsSend (Shared.the_row K B C A k b c a)
Shared_send K B C A k b c a keeper bell clock opened = search (sendable, crosses, Desk_send, Events_send) depth 60 fits 9000

-- A desk, its lanes and what lies under their lock may go to another thread.
use denote.RattleType.{RattleType}
use denote.Param.Send.{IsSend, sendable}
use Rattle.std.proofs.Crossing.{crosses}
use Rattle.asks.specs.contracts.bad_call.BadCall as BadCall
use Rattle.alerts.proofs.Crossing.{Ringer_field_send}
use Rattle.alerts.specs.declared.bell.Bell as Bell
use Rattle.asks.proofs.Crossing.{Call_field_send, Reply_field_send}
use Rattle.board.proofs.Crossing.{Board_field_send}
use Rattle.desk_state.specs.contracts.lanes.Item as Item
use Rattle.desk_state.specs.contracts.lanes.Outcome as Outcome
use Rattle.desk_state.specs.contracts.lanes.Said as Said
use Rattle.keeper.specs.declared.keeping.Keeper as Keeper
use Rattle.desk.specs.contracts.lanes.Lane as Lane
use Rattle.desk.specs.declared.round.Beginning as Beginning
use Rattle.desk.specs.contracts.settling.Desk as Desk
use Rattle.desk.specs.contracts.round.Round as Round

pub BadCall_send : IsSend (BadCall.the_field).row
BadCall_send = search (sendable, crosses) depth 60 fits 5000

pub Item_send : IsSend (Item.the_field).row
Item_send = search (sendable, crosses, Call_field_send, BadCall_send) depth 60 fits 9000

pub Said_send : IsSend (Said.the_field).row
Said_send = search (sendable, crosses, Reply_field_send, BadCall_send) depth 60 fits 9000

pub Outcome_send : IsSend (Outcome.the_field).row
Outcome_send = search (sendable, crosses, Said_send) depth 60 fits 9000

pub Lane_send : IsSend (Lane.the_field).row
Lane_send = search (sendable, crosses, Item_send, Outcome_send) depth 60 fits 9000

pub Desk_send : (K B : RattleType) → IsSend K → IsSend B → IsSend (Desk.the_field K B).row
Desk_send K B s b = search (sendable, crosses, Board_field_send, Ringer_field_send) depth 60 fits 5000

pub Round_send : (J K B : RattleType) → IsSend J → IsSend K → IsSend B → (a : Beginning.Ghosts J.Denot) → (b : Keeper.Ghosts K.Denot) → (d : Bell.Ghosts B.Denot)
    → IsSend (Round.the_row J K B a b d)
Round_send J K B j k h a b d = search (sendable, crosses, Desk_send, Lane_send) depth 60 fits 5000

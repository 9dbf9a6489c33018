-- The board may go to another thread.
use denote.Param.Send.{IsSend, sendable}
use Rattle.std.proofs.Crossing.{crosses}
use Rattle.desk_state.proofs.Crossing.{Alerted_send}
use Rattle.board.specs.contracts.state.Board as Board

pub Board_field_send : IsSend (Board.the_field).row
Board_field_send = search (sendable, crosses, Alerted_send) depth 60 fits 9000

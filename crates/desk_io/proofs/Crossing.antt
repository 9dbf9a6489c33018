-- A text may go to another thread.
use denote.Param.Send.{IsSend, sendable}
use Rattle.std.proofs.Crossing.{crosses}
use Rattle.desk_io.specs.contracts.text.Text as Text

pub Text_send : IsSend Text.the_row
Text_send = search (sendable, crosses) depth 60 fits 9000

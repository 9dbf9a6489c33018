-- Calls, replies and what is kept of them may go to another thread.
use denote.Param.Send.{IsSend, sendable}
use Rattle.std.proofs.Crossing.{crosses}
use Rattle.desk_io.proofs.Crossing.{Text_send}
use Rattle.plan.proofs.Crossing.{Finding_send, Plan_field_send, Phase_field_send}
use Rattle.asks.specs.contracts.call.Ask as Ask
use Rattle.asks.specs.contracts.call.Call as Call
use Rattle.asks.specs.contracts.reply.Done as Done
use Rattle.asks.specs.contracts.reply.Refusal as Refusal
use Rattle.asks.specs.contracts.reply.Reply as Reply
use Rattle.asks.specs.contracts.kept.KeptReply as KeptReply
use Rattle.asks.specs.contracts.kept.Floor as Floor

Ask_field_send : IsSend (Ask.the_field).row
Ask_field_send = search (sendable, crosses, Text_send, Plan_field_send) depth 60 fits 9000

pub Call_field_send : IsSend (Call.the_field).row
Call_field_send = search (sendable, crosses, Text_send, Ask_field_send) depth 60 fits 9000

Done_field_send : IsSend (Done.the_field).row
Done_field_send = search (sendable, crosses) depth 60 fits 9000

Refusal_field_send : IsSend (Refusal.the_field).row
Refusal_field_send = search (sendable, crosses, Text_send, Finding_send, Phase_field_send) depth 60 fits 9000

pub Reply_field_send : IsSend (Reply.the_field).row
Reply_field_send = search (sendable, crosses, Text_send, Done_field_send, Refusal_field_send) depth 60 fits 9000

pub KeptReply_send : IsSend KeptReply.the_row
KeptReply_send = search (sendable, crosses, Text_send, Done_field_send) depth 60 fits 9000

pub Floor_send : IsSend Floor.the_row
Floor_send = search (sendable, crosses, Text_send) depth 60 fits 9000

-- The replies that are kept may go to another thread.
use denote.Param.Send.{IsSend, sendable}
use Rattle.std.proofs.Crossing.{crosses}
use Rattle.asks.proofs.Crossing.{KeptReply_send, Floor_send}
use Rattle.kept_replies.specs.contracts.replies.Replies as Replies

pub Replies_field_send : IsSend (Replies.the_field).row
Replies_field_send = search (sendable, crosses, KeptReply_send, Floor_send) depth 60 fits 9000

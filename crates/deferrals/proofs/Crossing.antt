-- Deferred items may go to another thread.
use denote.Param.Send.{IsSend, sendable}
use Rattle.std.proofs.Crossing.{crosses}
use Rattle.desk_io.proofs.Crossing.{Text_send}
use Rattle.deferrals.specs.contracts.items.Deferral as Deferral
use Rattle.deferrals.specs.contracts.held.Deferrals as Deferrals

Deferral_send : IsSend Deferral.the_row
Deferral_send = search (sendable, crosses, Text_send) depth 60 fits 9000

pub Deferrals_field_send : IsSend (Deferrals.the_field).row
Deferrals_field_send = search (sendable, crosses, Deferral_send) depth 60 fits 9000

-- The releases that are held may go to another thread.
use denote.Param.Send.{IsSend, sendable}
use Rattle.std.proofs.Crossing.{crosses}
use Rattle.ops_tables.proofs.Crossing.{Settings_field_send}
use Rattle.plan.proofs.Crossing.{Release_send}
use Rattle.release_index.specs.contracts.releases.Releases as Releases

pub Releases_field_send : IsSend (Releases.the_field).row
Releases_field_send = search (sendable, crosses, Settings_field_send, Release_send) depth 60 fits 9000

-- Plans, findings and releases may go to another thread.
use denote.Param.Send.{IsSend, sendable}
use Rattle.std.proofs.Crossing.{crosses}
use Rattle.desk_io.proofs.Crossing.{Text_send}
use Rattle.plan.specs.contracts.findings.Rule as Rule
use Rattle.plan.specs.contracts.findings.Finding as Finding
use Rattle.plan.specs.contracts.flights.TakeoffAlternate as TakeoffAlternate
use Rattle.plan.specs.contracts.flights.Alternate as Alternate
use Rattle.plan.specs.contracts.flights.Leg as Leg
use Rattle.plan.specs.contracts.flights.Plan as Plan
use Rattle.plan.specs.contracts.release.Phase as Phase
use Rattle.plan.specs.contracts.release.Signature as Signature
use Rattle.plan.specs.contracts.release.Attached as Attached
use Rattle.plan.specs.contracts.release.Revision as Revision
use Rattle.plan.specs.contracts.release.Release as Release

Rule_field_send : IsSend (Rule.the_field).row
Rule_field_send = search (sendable, crosses) depth 60 fits 9000

pub Finding_send : IsSend Finding.the_row
Finding_send = search (sendable, crosses, Rule_field_send) depth 60 fits 9000

TakeoffAlternate_send : IsSend TakeoffAlternate.the_row
TakeoffAlternate_send = search (sendable, crosses) depth 60 fits 9000

Alternate_send : IsSend Alternate.the_row
Alternate_send = search (sendable, crosses) depth 60 fits 9000

Leg_send : IsSend Leg.the_row
Leg_send = search (sendable, crosses, TakeoffAlternate_send, Alternate_send) depth 60 fits 9000

pub Plan_field_send : IsSend (Plan.the_field).row
Plan_field_send = search (sendable, crosses, Text_send, Leg_send) depth 60 fits 9000

pub Phase_field_send : IsSend (Phase.the_field).row
Phase_field_send = search (sendable, crosses) depth 60 fits 9000

Signature_send : IsSend Signature.the_row
Signature_send = search (sendable, crosses, Text_send) depth 60 fits 9000

Attached_send : IsSend Attached.the_row
Attached_send = search (sendable, crosses, Text_send) depth 60 fits 9000

Revision_send : IsSend Revision.the_row
Revision_send = search (sendable, crosses, Plan_field_send, Attached_send, Signature_send) depth 60 fits 9000

pub Release_send : IsSend Release.the_row
Release_send = search (sendable, crosses, Text_send, Phase_field_send, Revision_send) depth 60 fits 9000

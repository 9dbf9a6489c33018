-- The state of a desk may go to another thread.
use denote.Param.Send.{IsSend, owning_send, sendable}
use Rattle.std.proofs.Crossing.{crosses}
use Rattle.asks.proofs.Crossing.{Call_field_send, Reply_field_send}
use Rattle.alerts.proofs.Crossing.{Alert_send}
use Rattle.deferrals.proofs.Crossing.{Deferrals_field_send}
use Rattle.release_index.proofs.Crossing.{Releases_field_send}
use Rattle.kept_replies.proofs.Crossing.{Replies_field_send}
use Rattle.ops_tables.proofs.Crossing.{Tables_send}
use Rattle.facts.proofs.Crossing.{Reports_send}
use Rattle.desk_state.specs.contracts.entry.What as What
use Rattle.desk_state.specs.contracts.entry.Entry as Entry
use Rattle.desk_state.specs.contracts.past.Past as Past
use Rattle.desk_state.specs.contracts.history.History as History
use Rattle.desk_state.specs.contracts.counters.Counters as Counters
use Rattle.desk_state.specs.contracts.holdings.Holdings as Holdings
use Rattle.desk_state.specs.contracts.content.Content as Content
use Rattle.desk_state.specs.contracts.alerted.Alerted as Alerted

What_field_send : IsSend (What.the_field).row
What_field_send = search (sendable, crosses, Call_field_send, Reply_field_send) depth 60 fits 9000

Entry_send : IsSend Entry.the_row
Entry_send = search (sendable, crosses, What_field_send) depth 60 fits 9000

Past_send : IsSend Past.the_row
Past_send = owning_send Past.the_type tt (λ d. tt) (λ k x w. tt)

History_field_send : IsSend (History.the_field).row
History_field_send = search (sendable, crosses, Entry_send, Past_send) depth 60 fits 9000

Counters_field_send : IsSend (Counters.the_field).row
Counters_field_send = search (sendable, crosses) depth 60 fits 9000

Holdings_send : IsSend (Holdings.the_field).row
Holdings_send = search (sendable, crosses, Tables_send, Counters_field_send, Reports_send, Deferrals_field_send, Releases_field_send, Alert_send, Replies_field_send, History_field_send) depth 60 fits 9000

Content_send : IsSend (Content.the_field).row
Content_send = search (sendable, crosses, Holdings_send) depth 60 fits 9000

pub Alerted_send : IsSend (Alerted.the_field).row
Alerted_send = search (sendable, crosses, Content_send) depth 60 fits 9000

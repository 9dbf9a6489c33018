-- The changes that a judgement alone makes to the rows.
use Rattle.std.specs.Prelude.{◌+◌, List, [], ◌∷◌}
use Rattle.desk_io.specs.declared.rows.Change.{Change}
use Rattle.desk_state.specs.declared.change.AlertChange.{AlertChange}
use Rattle.desk_state.specs.State.{State}
use Rattle.records.specs.declared.record.Meta.{Meta as MetaOf}
use Rattle.records.specs.declared.record.Record.TheVariants.{Meta}
use Rattle.row_changes.specs.Rows.{meta_of}
use Rattle.row_changes.specs.Changes.{put_row, alert_rows}

-- the meta record after one more event
abbrev pub meta_after_event : State → MetaOf
meta_after_event s = record (meta_of s) { counters = record s.counters { events = s.counters.events + 1 } }

-- The changes that a judgement makes to the rows. If it changes an alert, it counts as an event.
unfoldable pub judged_changes : State → List AlertChange → List Change
judged_changes s [] = []
judged_changes s (c ∷ cs) = put_row (Meta (meta_after_event s)) ∷ alert_rows (c ∷ cs)

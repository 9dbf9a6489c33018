-- The changes to rows of the first version when a desk opens over them.
use Rattle.std.specs.Prelude.{Bool, true, false, List, [], ◌∷◌, ◌++◌, map}
use Rattle.desk_io.specs.declared.rows.Change.{Change}
use Rattle.desk_state.specs.declared.change.AlertChange.{AlertChange}
use Rattle.desk_state.specs.State.{State}
use Rattle.records.specs.declared.record.Record.TheVariants.{Meta, Release}
use Rattle.row_changes.specs.Rows.{meta_of}
use Rattle.row_changes.specs.Changes.{put_row}
use Rattle.row_changes.specs.Judged.{judged_changes}

-- The meta row and the row of each release, as the desk writes them now. All other rows are the same in both
-- versions.
unfoldable pub upgraded_changes : State → List Change
upgraded_changes s = put_row (Meta (meta_of s)) ∷ map (λ r. put_row (Release r)) s.releases

abbrev pub if_old : Bool → State → List Change
if_old true s = upgraded_changes s
if_old false s = []

-- The changes that opening makes to the rows. Rows of the first version are rewritten, and then come the alerts that
-- change.
unfoldable pub opened_changes : Bool → State → List AlertChange → List Change
opened_changes old s alerts = if_old old s ++ judged_changes s alerts

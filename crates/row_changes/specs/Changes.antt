-- The changes that an event makes to the rows.
use Rattle.std.specs.Prelude.{ℕ, List, [], ◌∷◌, ◌++◌, map, Option, None, Some}
use Rattle.desk_io.specs.declared.rows.Change.{Change}
use Rattle.desk_io.specs.declared.rows.Change.TheVariants.{Put, Remove}
use Rattle.asks.specs.declared.kept.KeptReply.{KeptReply}
use Rattle.alerts.specs.declared.alert.Alert.{Alert as AlertOf}
use Rattle.facts.specs.Swept.{leaving}
use Rattle.facts.specs.declared.report.Report.{Report as ReportOf}
use Rattle.desk_state.specs.declared.change.AlertChange.{AlertChange}
use Rattle.desk_state.specs.declared.effect.Effect.{Effect}
use Rattle.desk_state.specs.declared.effect.OnDeferrals.{OnDeferrals}
use Rattle.desk_state.specs.declared.effect.OnDeferrals.TheVariants as on_deferrals
use Rattle.release_index.specs.declared.change.OnReleases.{OnReleases}
use Rattle.release_index.specs.declared.change.OnReleases.TheVariants as on_releases
use Rattle.desk_state.specs.declared.effect.Sweep.{Sweep}
use Rattle.desk_state.specs.declared.entry.Entry.{Entry}
use Rattle.desk_state.specs.Events.{effected, reports_after, alert_changes}
use Rattle.desk_state.specs.Requests.{kept_before}
use Rattle.desk_state.specs.State.{State}
use Rattle.desk_state.specs.Step.{entered, kept_of}
use Rattle.records.specs.Bodies.{row_of}
use Rattle.records.specs.declared.record.Record.{Record}
use Rattle.records.specs.declared.record.Record.TheVariants.{Meta, Report, Deferral, Release, Kept, Alert}
use Rattle.row_changes.specs.Rows.{meta_of, report_kept, alert_kept}

-- puts the row of a record
abbrev pub put_row : Record → Change
put_row r = Put (row_of r)

abbrev pub report_changes : Option ReportOf → List Change
report_changes None = []
report_changes (Some r) = put_row (Report (report_kept r)) ∷ []

-- removes the rows of swept reports
abbrev pub swept_reports : Option Sweep → List ReportOf → List Change
swept_reports None reports = []
swept_reports (Some w) reports = map (λ r. Remove 1 r.id) (leaving w.before w.attached reports)

abbrev pub deferral_changes : OnDeferrals → List Change
deferral_changes on_deferrals.Nothing = []
deferral_changes (on_deferrals.Open d) = put_row (Deferral d) ∷ []
deferral_changes (on_deferrals.Clear id) = Remove 2 id ∷ []

abbrev pub release_changes : OnReleases → List Change
release_changes on_releases.Nothing = []
release_changes (on_releases.File r) = put_row (Release r) ∷ []
release_changes (on_releases.Put r) = put_row (Release r) ∷ []
release_changes (on_releases.Remove id) = Remove 3 id ∷ []

-- removes the rows of swept replies
abbrev pub swept_replies : Option Sweep → List KeptReply → List Change
swept_replies None kept = []
swept_replies (Some w) kept = map (λ k. Remove 4 k.id) (kept_before w.before kept)

abbrev pub reply_changes : Option KeptReply → List Change
reply_changes None = []
reply_changes (Some k) = put_row (Kept k) ∷ []

abbrev pub alert_row : ℕ → Option AlertOf → Change
alert_row id None = Remove 5 id
alert_row id (Some a) = put_row (Alert (alert_kept a))

-- Puts or removes the rows of alerts, one change after another.
abbrev pub alert_rows : List AlertChange → List Change
alert_rows changes = map (λ c. alert_row c.release c.after) changes

-- the changes to the rows of reports
abbrev pub on_reports : State → Effect → List Change
on_reports s effect = report_changes effect.report ++ swept_reports effect.sweep (reports_after effect.report s.reports)

-- the changes to the rows of kept replies
abbrev pub on_replies : State → Effect → Option KeptReply → List Change
on_replies s effect kept = swept_replies effect.sweep s.kept ++ reply_changes kept

-- the changes to all rows except the meta row, from an effect, the reply to keep, and the alerts that change
abbrev pub part_changes : State → Effect → Option KeptReply → List AlertChange → List Change
part_changes s effect kept alerts =
    on_reports s effect ++ deferral_changes effect.on_deferrals ++ release_changes effect.on_releases ++ on_replies s effect kept ++ alert_rows alerts

-- The changes that an event makes to the rows. The meta row is always put.
unfoldable pub event_changes : State → Effect → Entry → List Change
event_changes s effect e =
    put_row (Meta (meta_of (entered e (effected effect s)))) ∷ part_changes s effect (kept_of (effected effect s) e.what) (alert_changes effect s)

-- The records of a state stand for it again.
use Rattle.std.proofs.Common.{◌≡◌, List, [], ◌∷◌, ◌++◌, map, refl, ap, ◌∙◌}
use Rattle.std.specs.List.{filter_map}
use Rattle.alerts.specs.declared.alert.Alert.{Alert as AlertOf}
use Rattle.facts.specs.Reading.{IsRead}
use Rattle.facts.specs.declared.report.Report.{Report as ReportOf}
use Rattle.row_changes.specs.Rows.{alert_kept, meta_of, records_of, report_kept}
use Rattle.desk_state.specs.Sound.{IsAlerted, IsBoard, IsToldTo}
use Rattle.desk_state.specs.State.{State, alert_at, grounds_of}
use Rattle.ops_tables.specs.Tables.{TableRows}
use Rattle.records.specs.declared.record.Record.{Record}
use Rattle.records.specs.declared.record.Record.TheVariants.{Meta, Report, Deferral, Release, Kept, Alert}
use Rattle.row_changes.specs.Held.{alert_of, state_in}
use Rattle.row_changes.proofs.SavedLaws.{alerts_again, listed, reports_again, state_listed}
use Rattle.desk_state.specs.Formed.{ReportHasForms}
use Rattle.desk_io.proofs.Each.{each_weaker}

map_twice : {A B C : Type 0} (f : A → B) (g : B → C) (xs : List A) → map (λ x. g (f x)) xs ≡ map g (map f xs)
map_twice f g [] = refl
map_twice f g (x ∷ xs) = ap (λ rest. g (f x) ∷ rest) (map_twice f g xs)

-- the records of a state are those of its parts, kind by kind
records_listed : (s : State) → records_of s ≡ listed (meta_of s) (map report_kept s.reports) s.deferrals s.releases s.kept (map alert_kept s.alerts)
unfolding records_of
records_listed s =
    ap (λ (xs : List Record). Meta (meta_of s) ∷ xs ++ map Deferral s.deferrals ++ map Release s.releases ++ map Kept s.kept ++ map (λ a. Alert (alert_kept a)) s.alerts)
    (map_twice report_kept Report s.reports)
    ∙ ap (λ (xs : List Record). Meta (meta_of s) ∷ map Report (map report_kept s.reports) ++ map Deferral s.deferrals ++ map Release s.releases ++ map Kept s.kept ++ xs)
    (map_twice alert_kept Alert s.alerts)

-- the state under some tables and with no history, with these reports and alerts
abbrev state_with : State → TableRows → List ReportOf → List AlertOf → State
state_with s tables reports alerts = record s { tables = tables; reports = reports; alerts = alerts; entries = [] }

-- The records of a state stand for it under any tables, but for its history.
pub state_again : (opening s : State) → IsBoard opening s → (tables : TableRows) → state_in tables (records_of s) ≡ record s { tables = tables; entries = [] }
state_again opening s board tables =
    let read = each_weaker ReportHasForms IsRead (λ r is. is.read) s.reports board.formed.reports in
    let told = each_weaker (IsAlerted (grounds_of s) s.alerts) (λ r. IsToldTo r.holder (alert_at r.id s.alerts)) (λ r is. is.1) s.releases board.sound.alerted in
    ap (λ rs. state_in tables rs) (records_listed s)
    ∙ state_listed (meta_of s) (map report_kept s.reports) s.deferrals s.releases s.kept (map alert_kept s.alerts) tables
    ∙ ap (λ (xs : List ReportOf). state_with s tables xs (filter_map (alert_of s.releases) (map alert_kept s.alerts))) (reports_again s.reports read)
    ∙ ap (λ (xs : List AlertOf). state_with s tables s.reports xs) (alerts_again s.alerts s.releases s.counters.next_release board.sound.ids board.sound.own told)

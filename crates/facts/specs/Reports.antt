-- The admitted reports, and the one report for which room is reserved.
use Rattle.std.specs.Prelude.{ℕ, ◌<◌, List, [], ◌∷◌, ◌++◌, All, AllPairs, Option, None, Some}
use Rattle.desk_io.specs.Station.{Station}
use Rattle.facts.specs.declared.report.Report.{Report}
use Rattle.facts.specs.Same.{station_of_report, minute_of_report}
use Rattle.facts.specs.Reading.{IsRead}

-- the report for which room is reserved, before its admission
pub record Room : Type 0 where
  pub station : Station
  pub text : List ℕ
  pub minute : ℕ

abbrev pub room_for : Report → Room
room_for r = record { station = station_of_report r; text = r.text; minute = minute_of_report r }

-- the model of `Reports`
pub record Admissions : Type 0 where
  -- the reports, in order of admission
  pub reports : List Report
  -- the one report for which room is reserved, if any
  pub room : Option Room

abbrev pub no_reports : Admissions
no_reports = record { reports = []; room = None }

-- these reports, without reserved room
abbrev pub admissions_of : List Report → Admissions
admissions_of rs = record { reports = rs; room = None }

-- room is reserved for that report
abbrev pub reserved : Admissions → Report → Admissions
reserved a r = record { reports = a.reports; room = Some (room_for r) }

-- the report is admitted, and no room is reserved
abbrev pub admitted : Admissions → Report → Admissions
admitted a r = record { reports = a.reports ++ r ∷ []; room = None }

-- The numbers rise, each text is canonical, and each reading is that of its text.
pub record AreHeld (rs : List Report) : Type 0 where
  pub rising : AllPairs (λ a b. a.id < b.id) rs
  pub read : All IsRead rs

-- The grounds of a judgement: tables, reports, open deferrals and the moment.
use Rattle.std.specs.Prelude.{ℕ, List, ◌++◌, Option, None, Some, option_to_list}
use Rattle.std.specs.Option.{option_copied}
use Rattle.facts.specs.declared.report.Report.{Report}
use Rattle.ops_tables.specs.Tables.{TableRows}
use Rattle.deferrals.specs.declared.items.Deferral.{Deferral}
use Rattle.deferrals.specs.Held.{without}
use Rattle.rules.specs.declared.evidence.Evidence.{Evidence}

pub record Grounds : Type 0 where
  -- the operations tables of the airline
  pub tables : TableRows
  -- the reports in the order of admission
  pub reports : List Report
  -- the open deferrals in the order of their ids
  pub deferrals : List Deferral
  -- the moment of the judgement
  pub moment : ℕ

-- the reports that the desk holds, then the one about to be admitted
abbrev pub reports_of : Evidence → List Report
reports_of e = e.held.now.reports ++ option_to_list (option_copied e.fresh)

-- the deferrals except the one that is cleared
abbrev pub once_cleared : Option ℕ → List Deferral → List Deferral
once_cleared None list = list
once_cleared (Some id) list = without id list

-- the open deferrals except the one that is cleared, then the one about to be added
abbrev pub deferrals_of : Evidence → List Deferral
deferrals_of e = once_cleared e.cleared e.deferrals.now.list ++ option_to_list (option_copied e.deferred)

-- the grounds after the change that the evidence describes
abbrev pub grounds_of : Evidence → Grounds
grounds_of e = record { tables = e.tables.now; reports = reports_of e; deferrals = deferrals_of e; moment = e.moment }

-- the grounds that the desk holds, without a change
abbrev pub grounds_held : TableRows → List Report → List Deferral → ℕ → Grounds
grounds_held tables reports deferrals moment = record { tables = tables; reports = reports; deferrals = deferrals; moment = moment }

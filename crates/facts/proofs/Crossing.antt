-- The reports may go to another thread.
use denote.Param.Send.{IsSend, sendable}
use Rattle.std.proofs.Crossing.{crosses}
use Rattle.facts.specs.contracts.report.Report.{the_row as report_row}
use Rattle.facts.specs.contracts.reports.Reports.{the_row as reports_row}

pub Report_send : IsSend report_row
Report_send = search (sendable, crosses) depth 60 fits 5000

pub Reports_send : IsSend reports_row
Reports_send = search (sendable, crosses, Report_send) depth 60 fits 5000

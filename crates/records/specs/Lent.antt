-- Borrowed records, and the records that they represent.
use Rattle.records.specs.declared.lent.AlertRef.{AlertRef}
use Rattle.records.specs.declared.lent.MetaRef.{MetaRef}
use Rattle.records.specs.declared.lent.RecordRef.{RecordRef}
use Rattle.records.specs.declared.lent.RecordRef.TheVariants as one
use Rattle.records.specs.declared.lent.ReportRef.{ReportRef}
use Rattle.records.specs.declared.record.KeptAlert.{KeptAlert}
use Rattle.records.specs.declared.record.KeptReport.{KeptReport}
use Rattle.records.specs.declared.record.Meta.{Meta as MetaOf}
use Rattle.records.specs.declared.record.Record.{Record}
use Rattle.records.specs.declared.record.Record.TheVariants.{Meta, Report, Deferral, Release, Kept, Alert}

abbrev pub meta_lent : MetaRef → MetaOf
meta_lent m = record { moment = m.moment; counters = m.counters; floors = m.floors.now }

abbrev pub report_lent : ReportRef → KeptReport
report_lent r = record { id = r.id; received = r.received; text = r.text.now }

abbrev pub alert_lent : AlertRef → KeptAlert
alert_lent a =
    record { release = a.release; version = a.version; opened = a.opened; failing = a.failing.now; ever = a.ever.now; acknowledged = a.acknowledged }

-- the record that a borrowed one represents
abbrev pub lent : RecordRef → Record
lent (one.Meta m) = Meta (meta_lent m)
lent (one.Report r) = Report (report_lent r)
lent (one.Deferral d) = Deferral d.now
lent (one.Release r) = Release r.now
lent (one.Kept k) = Kept k.now
lent (one.Alert a) = Alert (alert_lent a)

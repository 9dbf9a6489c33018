-- The state that records stand for has its forms.
use Rattle.std.proofs.Common.{◌≡◌, Option, None, Some, IfSome, Result, Ok, Err, List, refl}
use Rattle.std.specs.List.{AllByRecursion, filter_map}
use Rattle.std.specs.Option.{option_map}
use Rattle.std.proofs.lemmas.List.Elements.{recursion_from_All}
use Rattle.codes.specs.declared.fault.BadReport.{BadReport}
use Rattle.facts.specs.Reading.{read_of}
use Rattle.facts.specs.declared.report.Read.{Read}
use Rattle.desk_state.specs.State.{release_at}
use Rattle.ops_tables.specs.Tables.{TableRows}
use Rattle.plan.specs.declared.release.Release.{Release as ReleaseOf}
use Rattle.records.specs.Valid.{IsKeptAlert, IsMeta, IsRecord, IsReport}
use Rattle.records.specs.declared.record.KeptAlert.{KeptAlert}
use Rattle.records.specs.declared.record.KeptReport.{KeptReport}
use Rattle.records.specs.declared.record.Meta.{Meta as MetaOf}
use Rattle.records.specs.declared.record.Record.{Record}
use Rattle.records.specs.declared.record.Record.TheVariants.{Meta, Report, Deferral, Release, Kept, Alert}
use Rattle.asks.specs.Forms.{IsFormed}
use Rattle.row_changes.specs.Held.{AreOfDesk, alert_in, alert_of, alert_with, deferral_in, meta_in, release_in, reply_in, report_if, report_in, report_of, state_with}
use Rattle.row_changes.proofs.Fitting.{meta_among}
use Rattle.row_changes.proofs.Lists.{each_mapped}
use Rattle.facts.proofs.ReadLaws.{read_moments}
use Rattle.desk_state.specs.Formed.{AlertHasForms, AreFormed, DeferralHasForms, ReplyHasForms, ReportHasForms}
use Rattle.ops_tables.specs.Named.{AreNamed}

-- ---- reports

pub report_valid : (x : Record) → IsRecord x → IfSome (report_in x) IsReport
unfolding IsRecord
report_valid (Report r) is = is
report_valid (Meta m) is = tt
report_valid (Deferral d) is = tt
report_valid (Release r) is = tt
report_valid (Kept k) is = tt
report_valid (Alert a) is = tt

report_by : (r : KeptReport) (o : Result Read BadReport) → read_of r.text r.received ≡ o → IsReport r → IfSome (report_if r o) ReportHasForms
report_by r (Ok read) reading is = record {
  read = record { canonical = is.canonical; reading = reading; moments = record { received = is.received; read = read_moments r.text r.received read reading } };
  text = is.text;
}
report_by r (Err bad) reading is = tt

report_formed : (r : KeptReport) → IsReport r → IfSome (report_of r) ReportHasForms
unfolding report_of
report_formed r is = report_by r (read_of r.text r.received) refl is

pub reports_formed : (rs : List Record) → AllByRecursion IsRecord rs → AllByRecursion ReportHasForms (filter_map report_of (filter_map report_in rs))
reports_formed rs valid = each_mapped IsReport ReportHasForms report_of report_formed (filter_map report_in rs) (each_mapped IsRecord IsReport report_in report_valid rs valid)

-- ---- deferrals, releases, replies

deferral_formed : (x : Record) → IsRecord x → IfSome (deferral_in x) DeferralHasForms
unfolding IsRecord
deferral_formed (Deferral d) is = record { tail = is.tail; item = is.item }
deferral_formed (Meta m) is = tt
deferral_formed (Report r) is = tt
deferral_formed (Release r) is = tt
deferral_formed (Kept k) is = tt
deferral_formed (Alert a) is = tt

release_formed : (x : Record) → IsRecord x → IfSome (release_in x) IsFormed
unfolding IsRecord
release_formed (Release r) is = is.1.formed
release_formed (Meta m) is = tt
release_formed (Report r) is = tt
release_formed (Deferral d) is = tt
release_formed (Kept k) is = tt
release_formed (Alert a) is = tt

reply_formed : (x : Record) → IsRecord x → IfSome (reply_in x) ReplyHasForms
unfolding IsRecord
reply_formed (Kept k) is = record { actor = is.actor; number = is.number; digest = is.digest; done = is.done }
reply_formed (Meta m) is = tt
reply_formed (Report r) is = tt
reply_formed (Deferral d) is = tt
reply_formed (Release r) is = tt
reply_formed (Alert a) is = tt

-- ---- alerts

alert_valid : (x : Record) → IsRecord x → IfSome (alert_in x) IsKeptAlert
unfolding IsRecord
alert_valid (Alert a) is = is
alert_valid (Meta m) is = tt
alert_valid (Report r) is = tt
alert_valid (Deferral d) is = tt
alert_valid (Release r) is = tt
alert_valid (Kept k) is = tt

alert_by : (a : KeptAlert) (o : Option ReleaseOf) → IsKeptAlert a → IfSome (option_map (λ r. alert_with a r.holder) o) AlertHasForms
alert_by a None is = tt
alert_by a (Some r) is = record { failing = is.failing.forms; ever = is.ever.forms }

alerts_formed : (rs : List Record) → AllByRecursion IsRecord rs → AllByRecursion AlertHasForms (filter_map (alert_of (filter_map release_in rs)) (filter_map alert_in rs))
alerts_formed rs valid =
    each_mapped IsKeptAlert AlertHasForms (alert_of (filter_map release_in rs)) (λ a is. alert_by a (release_at a.release (filter_map release_in rs)) is) (filter_map alert_in rs)
    (each_mapped IsRecord IsKeptAlert alert_in alert_valid rs valid)

-- ---- the whole

meta_valid : (m : MetaOf) → IsRecord (Meta m) → IsMeta m
unfolding IsRecord
meta_valid m is = is

-- what a meta record and those after it stand for has its forms
pub counted_formed : (tables : TableRows) (rs : List Record) (m : MetaOf) → AreNamed tables → AreOfDesk rs → meta_in rs ≡ Some m → AreFormed (state_with tables m rs)
counted_formed tables rs m names are is =
    let valid = recursion_from_All IsRecord rs are.valid in
    let meta = meta_valid m (meta_among rs m are is).valid in
    record {
      names = names;
      reports = reports_formed rs valid;
      deferrals = each_mapped IsRecord DeferralHasForms deferral_in deferral_formed rs valid;
      releases = each_mapped IsRecord IsFormed release_in release_formed rs valid;
      alerts = alerts_formed rs valid;
      kept = each_mapped IsRecord ReplyHasForms reply_in reply_formed rs valid;
      floors = meta.floors;
      rising = meta.rising;
    }

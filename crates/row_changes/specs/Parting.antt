-- Records, separated by kind.
use Rattle.std.specs.Prelude.{List, [], ◌∷◌, ◌++◌, Option, None, Some}
use Rattle.plan.specs.declared.release.Release.{Release as ReleaseOf}
use Rattle.asks.specs.declared.kept.KeptReply.{KeptReply}
use Rattle.deferrals.specs.declared.items.Deferral.{Deferral as DeferralOf}
use Rattle.records.specs.declared.record.KeptAlert.{KeptAlert}
use Rattle.records.specs.declared.record.KeptReport.{KeptReport}
use Rattle.records.specs.declared.record.Meta.{Meta as MetaOf}
use Rattle.records.specs.declared.record.Record.{Record}
use Rattle.records.specs.declared.record.Record.TheVariants.{Meta, Report, Deferral, Release, Kept, Alert}
use Rattle.row_changes.specs.declared.parting.Parts.{Parts}

-- the first meta record, and the other records of each kind in order
pub record Kinds : Type 0 where
  pub meta : Option MetaOf
  pub reports : List KeptReport
  pub deferrals : List DeferralOf
  pub releases : List ReleaseOf
  pub replies : List KeptReply
  pub alerts : List KeptAlert

-- the contents of the vectors
abbrev pub kinds_of : Parts → Kinds
kinds_of p = record {
  meta = p.meta;
  reports = p.reports.items;
  deferrals = p.deferrals.items;
  releases = p.releases.items;
  replies = p.replies.items;
  alerts = p.alerts.items;
}

abbrev pub no_kinds : Kinds
no_kinds = record { meta = None; reports = []; deferrals = []; releases = []; replies = []; alerts = [] }

-- the first of two meta records
abbrev pub first_of : Option MetaOf → MetaOf → Option MetaOf
first_of None m = Some m
first_of (Some first) m = Some first

-- one more record
abbrev pub with_record : Record → Kinds → Kinds
with_record (Meta m) k = record k { meta = first_of k.meta m }
with_record (Report r) k = record k { reports = k.reports ++ r ∷ [] }
with_record (Deferral d) k = record k { deferrals = k.deferrals ++ d ∷ [] }
with_record (Release r) k = record k { releases = k.releases ++ r ∷ [] }
with_record (Kept r) k = record k { replies = k.replies ++ r ∷ [] }
with_record (Alert a) k = record k { alerts = k.alerts ++ a ∷ [] }

-- more records, in order
abbrev pub with_records : List Record → Kinds → Kinds
with_records [] k = k
with_records (r ∷ rs) k = with_records rs (with_record r k)

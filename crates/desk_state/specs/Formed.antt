-- The forms that each part of the state has, so that its stored row can be read again.
use Rattle.std.specs.Prelude.{◌≡◌, true, IsUtf8}
use Rattle.std.specs.List.{AllByRecursion}
use Rattle.alerts.specs.declared.alert.Alert.{Alert}
use Rattle.asks.specs.declared.kept.KeptReply.{KeptReply}
use Rattle.deferrals.specs.declared.items.Deferral.{Deferral}
use Rattle.facts.specs.Reading.{IsRead}
use Rattle.facts.specs.declared.report.Report.{Report}
use Rattle.desk_state.specs.State.{State}
use Rattle.ops_tables.specs.Forms.{is_tail, is_item, is_person}
use Rattle.ops_tables.specs.Named.{AreNamed}
use Rattle.asks.specs.Forms.{DoneHasForms, IsRequest, IsFloor, FloorsRise, IsFinding, IsFormed}
use Rattle.asks.specs.Digests.{IsDigest}

-- a canonical text in UTF-8, and its reading as of its receipt
pub record ReportHasForms (r : Report) : Type 0 where
  pub read : IsRead r
  pub text : IsUtf8 r.text

pub record DeferralHasForms (d : Deferral) : Type 0 where
  pub tail : is_tail d.tail ≡ true
  pub item : is_item d.item ≡ true

-- the failing rules, now and ever, have legs and places within their limits
pub record AlertHasForms (a : Alert) : Type 0 where
  pub failing : AllByRecursion IsFinding a.failing
  pub ever : AllByRecursion IsFinding a.ever

-- a kept reply
pub record ReplyHasForms (k : KeptReply) : Type 0 where
  pub actor : is_person k.actor ≡ true
  pub number : IsRequest k.number
  pub digest : IsDigest k.digest
  pub done : DoneHasForms k.done

-- Each part of the state has its forms, and the floors are in byte order of the persons.
pub record AreFormed (s : State) : Type 0 where
  pub names : AreNamed s.tables
  pub reports : AllByRecursion ReportHasForms s.reports
  pub deferrals : AllByRecursion DeferralHasForms s.deferrals
  pub releases : AllByRecursion IsFormed s.releases
  pub alerts : AllByRecursion AlertHasForms s.alerts
  pub kept : AllByRecursion ReplyHasForms s.kept
  pub floors : AllByRecursion IsFloor s.floors
  pub rising : FloorsRise s.floors

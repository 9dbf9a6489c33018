-- Which records are valid.
use Rattle.std.specs.Prelude.{◌≡◌, ℕ, ◌≤◌, Bool, true, ◌&&◌, List, [], ◌∷◌, IsUtf8, IsOk, is_ok}
use Rattle.std.specs.List.{AllByRecursion, list_all}
use Rattle.std.specs.Ordering.{nat_cmp, is_lt}
use Rattle.std.specs.Cmp.Lexicographic.{slice_cmp}
use Rattle.std.specs.Str.{bytes_eq}
use Rattle.codes.specs.Groups.{groups_of, canonical}
use Rattle.ops_tables.specs.Forms.{is_tail, is_item, is_person}
use Rattle.plan.specs.Findings.{AreInOrder, AreAmong, is_among}
use Rattle.desk_time.specs.Limits.{IsMoment}
use Rattle.plan.specs.declared.findings.Finding.{Finding}
use Rattle.asks.specs.declared.kept.Floor.{Floor}
use Rattle.asks.specs.declared.kept.KeptReply.{KeptReply}
use Rattle.deferrals.specs.declared.items.Deferral.{Deferral as DeferralOf}
use Rattle.facts.specs.Reading.{read_of}
use Rattle.asks.specs.Forms.{IsId, DoneHasForms, IsFinding, IsRequest, IsFloor, FloorsRise}
use Rattle.asks.specs.Digests.{IsDigest}
use Rattle.release_json.specs.Kept.{IsKept}
use Rattle.release_json.specs.Versions.{SaysRelease}
use Rattle.release_json.specs.declared.version.Version.{Version}
use Rattle.release_json.specs.declared.version.Version.TheVariants.{First, Second}
use Rattle.records.specs.declared.record.KeptAlert.{KeptAlert}
use Rattle.records.specs.declared.record.KeptReport.{KeptReport}
use Rattle.desk_state.specs.declared.counters.Counters.{Counters}
use Rattle.records.specs.declared.record.Meta.{Meta as MetaOf}
use Rattle.records.specs.declared.record.Record.{Record}
use Rattle.records.specs.declared.record.Record.TheVariants.{Meta, Report, Deferral, Release, Kept, Alert}

-- each counter is at most 10^15
pub record AreIds (c : Counters) : Type 0 where
  pub events : IsId c.events
  pub next_report : IsId c.next_report
  pub next_deferral : IsId c.next_deferral
  pub next_release : IsId c.next_release
  pub next_kept : IsId c.next_kept

-- a moment from 2000 to 2099, counters, and floors in byte order of the names
pub record IsMeta (m : MetaOf) : Type 0 where
  pub moment : IsMoment m.moment
  pub counters : AreIds m.counters
  pub floors : AllByRecursion IsFloor m.floors
  pub rising : FloorsRise m.floors

-- a report whose text is canonical, and can be read as of its receipt
pub record IsReport (r : KeptReport) : Type 0 where
  pub id : IsId r.id
  pub received : IsMoment r.received
  pub text : IsUtf8 r.text
  pub canonical : canonical (groups_of r.text) ≡ r.text
  pub read : IsOk (read_of r.text r.received)

pub record IsDeferral (d : DeferralOf) : Type 0 where
  pub id : IsId d.id
  pub tail : is_tail d.tail ≡ true
  pub item : is_item d.item ≡ true
  pub found : IsMoment d.found

pub record IsKeptReply (k : KeptReply) : Type 0 where
  pub id : IsId k.id
  pub actor : is_person k.actor ≡ true
  pub number : IsRequest k.number
  pub digest : IsDigest k.digest
  pub at : IsMoment k.at
  pub done : DoneHasForms k.done

-- findings within their limits, in order without duplicates
pub record AreFindings (findings : List Finding) : Type 0 where
  pub forms : AllByRecursion IsFinding findings
  pub order : AreInOrder findings

-- an alert whose failing rules are among those that have failed
pub record IsKeptAlert (a : KeptAlert) : Type 0 where
  pub release : IsId a.release
  pub version : IsId a.version
  pub first : 1 ≤ a.version
  pub opened : IsMoment a.opened
  pub failing : AreFindings a.failing
  pub ever : AreFindings a.ever
  pub among : AreAmong a.ever a.failing

-- a record whose parts have their forms
unfoldable pub IsRecord : Record → Type 0
IsRecord (Meta m) = IsMeta m
IsRecord (Report r) = IsReport r
IsRecord (Deferral d) = IsDeferral d
IsRecord (Release r) = IsId r.id × IsKept r
IsRecord (Kept k) = IsKeptReply k
IsRecord (Alert a) = IsKeptAlert a

-- Rows of this version represent the record in full. In the first version no release has a captain's hours.
abbrev pub SaysRecord : Version → Record → Type 0
SaysRecord First (Meta m) = Unit {0}
SaysRecord First (Report r) = Unit {0}
SaysRecord First (Deferral d) = Unit {0}
SaysRecord First (Release r) = SaysRelease First r
SaysRecord First (Kept k) = Unit {0}
SaysRecord First (Alert a) = Unit {0}
SaysRecord Second r = Unit {0}

-- ---- the same as tests

-- a name is before the next one
abbrev pub comes_before : List ℕ → List Floor → Bool
comes_before name [] = true
comes_before name (f ∷ fs) = is_lt (slice_cmp nat_cmp name f.actor)

abbrev pub are_rising : List Floor → Bool
are_rising [] = true
are_rising (f ∷ fs) = comes_before f.actor fs && are_rising fs

-- a report's text is canonical and can be read
unfoldable pub is_report : KeptReport → Bool
is_report r = bytes_eq (canonical (groups_of r.text)) r.text && is_ok (read_of r.text r.received)

abbrev pub are_among : List Finding → List Finding → Bool
are_among others findings = list_all (is_among others) findings

-- The body of a valid record is read as that record.
use Rattle.std.proofs.Common.{◌≡◌, ℕ, ◌≤◌, true, List, [], ◌∷◌, Option, None, Some, refl, ap, ◌∙◌, arith, le-leb}
use Rattle.std.specs.List.{AllByRecursion}
use Rattle.std.specs.Option.{option_map}
use Rattle.std.proofs.lemmas.Slice.Eq.{bytes_eq-Decides}
use Rattle.std.proofs.lemmas.Str.{is_utf8-from_IsUtf8}
use Rattle.serde_json.specs.Data.{object}
use Rattle.codes.specs.Groups.{groups_of, canonical}
use Rattle.asks.specs.declared.kept.Floor.{Floor}
use Rattle.plan.specs.Findings.{AreAmong}
use Rattle.plan.specs.declared.findings.Finding.{Finding}
use Rattle.asks.proofs.Again.{small_again, id_again, moment_again, done_again}
use Rattle.asks.proofs.DigestLaws.{digest_again}
use Rattle.release_json.proofs.FindingLaws.{findings_again}
use Rattle.release_json.proofs.ReleaseLaws.{person_again, release_again}
use Rattle.records.specs.Kinds.{kind_of, key_of}
use Rattle.release_json.specs.Versions.{SaysRelease}
use Rattle.release_json.specs.declared.version.Version.{Version}
use Rattle.release_json.specs.declared.version.Version.TheVariants.{First, Second}
use Rattle.records.specs.Bodies.{floors_data, meta_members, body_data}
use Rattle.records.specs.Reading as spec
use Rattle.asks.specs.Forms.{IsFloor, FloorsRise}
use Rattle.records.specs.Valid.{IsMeta, IsReport, IsRecord, SaysRecord, is_report, are_among}
use Rattle.records.specs.declared.record.KeptReport.{KeptReport}
use Rattle.plan.specs.declared.release.Release.{Release as ReleaseOf}
use Rattle.records.specs.declared.record.Meta.{Meta as MetaOf}
use Rattle.records.specs.declared.record.Record.{Record}
use Rattle.records.specs.declared.record.Record.TheVariants.{Meta, Report, Deferral, Release, Kept, Alert}
use Rattle.records.proofs.FloorLaws.{floors_in_turn, floors_again, rising_tested}
use Rattle.records.proofs.NameLaws.{tail_again, item_again, text_lossy}

-- ---- floors

floors_read : (fs : List Floor) → AllByRecursion IsFloor fs → FloorsRise fs → spec.floors_of (floors_data fs) ≡ Some fs
unfolding floors_data
floors_read fs all rising =
    ap (λ ms. spec.floors_of (object ms)) (floors_in_turn fs all rising) ∙ rw (floors_again fs all, rising_tested fs rising) refl

-- ---- reports

report_passes : (r : KeptReport) → IsReport r → is_report r ≡ true
unfolding is_report
report_passes r is = rw ((bytes_eq-Decides (canonical (groups_of r.text)) r.text).1 is.canonical, is.read) refl

-- ---- alerts

among_tested : (others fs : List Finding) → AreAmong others fs → are_among others fs ≡ true
among_tested others [] all = refl
among_tested others (f ∷ fs) all = rw (all.0, among_tested others fs all.1) refl

version_again : (version : ℕ) → 1 ≤ version → spec.from_one version ≡ Some version
version_again version first = rw (le-leb 1 version first) refl

-- ---- the meta row

meta_again : (version : Version) (m : MetaOf) → IsMeta m → spec.meta_in version 0 (object (meta_members version m)) ≡ Some m
unfolding spec.floors_at spec.counters_at
meta_again First m is =
    rw (
      moment_again m.moment is.moment,
      id_again m.counters.events is.counters.events,
      id_again m.counters.next_report is.counters.next_report,
      id_again m.counters.next_deferral is.counters.next_deferral,
      id_again m.counters.next_release is.counters.next_release,
      id_again m.counters.next_kept is.counters.next_kept,
      floors_read m.floors is.floors is.rising,
    ) refl
meta_again Second m is =
    rw (
      moment_again m.moment is.moment,
      id_again m.counters.events is.counters.events,
      id_again m.counters.next_report is.counters.next_report,
      id_again m.counters.next_deferral is.counters.next_deferral,
      id_again m.counters.next_release is.counters.next_release,
      id_again m.counters.next_kept is.counters.next_kept,
      floors_read m.floors is.floors is.rising,
    ) refl

-- the row of the counters in the second version isn't one in the first
pub not_first : (m : MetaOf) → IsMeta m → spec.meta_in First 0 (object (meta_members Second m)) ≡ None
unfolding spec.floors_at spec.counters_at
not_first m is =
    rw (
      moment_again m.moment is.moment,
      id_again m.counters.events is.counters.events,
      id_again m.counters.next_report is.counters.next_report,
      id_again m.counters.next_deferral is.counters.next_deferral,
      id_again m.counters.next_release is.counters.next_release,
      id_again m.counters.next_kept is.counters.next_kept,
      floors_read m.floors is.floors is.rising,
    ) refl

-- ---- records

release_said : (version : Version) (r : ReleaseOf) → SaysRecord version (Release r) → SaysRelease version r
release_said First r said = said
release_said Second r said = tt

in_again : (version : Version) (r : Record) → IsRecord r → SaysRecord version r → spec.record_in version (kind_of r) (key_of r) (body_data version r) ≡ Some r
unfolding body_data IsRecord spec.stamp_of spec.opening_of
in_again version (Meta m) is said = ap (λ (o : Option MetaOf). option_map Meta o) (meta_again version m is)
in_again version (Report r) is said = rw (moment_again r.received is.received, text_lossy r.text is.text, is_utf8-from_IsUtf8 r.text is.text, report_passes r is) refl
in_again version (Deferral d) is said = rw (moment_again d.found is.found, item_again d.item is.item, tail_again d.tail is.tail) refl
in_again version (Release r) is said = rw (release_again version r is.1 (release_said version r said)) refl
in_again version (Kept k) is said =
    rw (moment_again k.at is.at, digest_again k.digest is.digest, small_again k.number 1_000_000_000_000 is.number, done_again 1_000_000_000_000_000 4_294_967_295 k.done is.done, person_again k.actor is.actor) refl
in_again version (Alert a) is said =
    rw (
      moment_again a.opened is.opened,
      id_again a.version is.version,
      version_again a.version is.first,
      findings_again a.failing is.failing.order is.failing.forms,
      findings_again a.ever is.ever.order is.ever.forms,
      among_tested a.ever a.failing is.among,
    ) refl

key_small : (r : Record) → IsRecord r → key_of r ≤ 1_000_000_000_000_000
unfolding IsRecord
key_small (Meta m) is = omega arith
key_small (Report r) is = is.id
key_small (Deferral d) is = is.id
key_small (Release r) is = is.0
key_small (Kept k) is = is.id
key_small (Alert a) is = is.release

pub record_again : (version : Version) (r : Record) → IsRecord r → SaysRecord version r → spec.record_of version (kind_of r) (key_of r) (body_data version r) ≡ Some r
unfolding spec.record_of
record_again version r is said = rw (id_again (key_of r) (key_small r is)) (in_again version r is said)

-- A record that is read is valid.
use Rattle.std.proofs.Common.{◌≡◌, ℕ, ◌≤◌, true, nat_le, List, [], ◌∷◌, Option, None, Some, IfSome, IsUtf8, codes, sym, subst, is_ok}
use Rattle.std.specs.Prelude.{◌==◌, option_and_then}
use Rattle.std.specs.List.{AllByRecursion}
use Rattle.std.specs.Option.{option_map}
use Rattle.std.specs.Str.{bytes_eq, is_utf8}
use Rattle.std.proofs.lemmas.Bool.{and_parts, leb-true}
use Rattle.std.proofs.lemmas.Slice.Eq.{bytes_eq-Decides}
use Rattle.std.proofs.lemmas.Str.{IsUtf8-from_is_utf8}
use Rattle.serde_json.specs.Data.{Data, Items, Members, no_members, member}
use Rattle.serde_json.specs.Find.{get, as_number, as_str, as_u64, as_object}
use Rattle.codes.specs.Groups.{groups_of, canonical}
use Rattle.ops_tables.specs.Forms.{is_tail, is_item}
use Rattle.facts.specs.Reading.{read_of}
use Rattle.plan.specs.Findings.{AreAmong, is_among}
use Rattle.desk_time.specs.Limits.{IsMoment}
use Rattle.plan.specs.declared.findings.Finding.{Finding}
use Rattle.asks.specs.declared.kept.Floor.{Floor}
use Rattle.asks.specs.Forms.{IsId, DoneHasForms, IsFinding, IsRequest, IsFloor, FloorsRise}
use Rattle.asks.specs.Digests.{digest_at, IsDigest}
use Rattle.asks.specs.Dones.{done_of}
use Rattle.asks.specs.Fields.{text_at, number_at, id_at, moment_at, list_at, each_read, has_members}
use Rattle.asks.proofs.DoneForms.{done_formed, digest_is}
use Rattle.desk_time.proofs.Chains.{bind_if, bind_any, then_if, under, either, both_held, mapped}
use Rattle.asks.proofs.PlanForms.{id_formed, moment_formed, each_formed}
use Rattle.release_json.specs.Findings.{finding_of, finding_in, are_in_order, findings_of}
use Rattle.release_json.proofs.FindingLaws.{finding_formed, order_tested}
use Rattle.release_json.specs.Kept.{IsKept}
use Rattle.release_json.specs.Versions.{SaysRelease}
use Rattle.release_json.specs.declared.version.Version.{Version}
use Rattle.release_json.specs.declared.version.Version.TheVariants.{First, Second}
use Rattle.release_json.specs.Releases.{bool_at, person, person_at, release_of}
use Rattle.release_json.proofs.ReleaseForms.{IsPerson, person_formed, person_at_formed, release_kept, release_named, release_says}
use Rattle.records.specs.Reading as read
use Rattle.records.specs.Valid.{AreIds, IsMeta, IsReport, IsDeferral, IsKeptReply, AreFindings, IsKeptAlert, IsRecord, SaysRecord, are_rising, is_report, are_among}
use Rattle.records.specs.declared.alert_rows.Opening.{Opening}
use Rattle.records.specs.declared.kept_rows.Stamp.{Stamp}
use Rattle.records.specs.declared.record.KeptReport.{KeptReport}
use Rattle.records.specs.declared.record.Record.TheVariants.{Meta, Report, Deferral, Release, Kept, Alert}
use Rattle.records.proofs.FloorLaws.{rising_from_test}
use Rattle.desk_time.specs.Digits.{◌>>=◌}
use Rattle.desk_time.specs.Moments.{up_to}

-- ---- fields

small_formed : (limit : ℕ) (o : Option ℕ) → IfSome (option_and_then (up_to limit) o) (λ n. n ≤ limit)
small_formed limit o = then_if (up_to limit) o (λ n. n ≤ limit) (λ n. under (nat_le n limit) (Some n) (λ n. n ≤ limit) (leb-true n limit))

abbrev IsTail : List ℕ → Type 0
IsTail t = is_tail t ≡ true

tail_formed : (d : Data) → IfSome (option_and_then read.tail (text_at (codes "tail") d)) IsTail
tail_formed d = then_if read.tail (text_at (codes "tail") d) IsTail (λ t. under (is_tail t) (Some t) IsTail (λ is. is))

abbrev IsItem : List ℕ → Type 0
IsItem t = is_item t ≡ true

item_formed : (d : Data) → IfSome (option_and_then read.item (text_at (codes "item") d)) IsItem
item_formed d = then_if read.item (text_at (codes "item") d) IsItem (λ t. under (is_item t) (Some t) IsItem (λ is. is))

-- ---- the meta row

floor_formed : (key : List ℕ) (d : Data) → IfSome (read.floor_of key d) IsFloor
floor_formed key d =
    bind_if (person key) _ IsPerson IsFloor (person_formed key) (λ actor is.
    bind_if (read.request_in d) _ IsRequest IsFloor (small_formed 1_000_000_000_000 (option_and_then as_u64 (as_number d))) (λ number few. record { actor = is; number = few }))

floors_formed : (ms : Members) → IfSome (read.floors_in ms) (AllByRecursion IsFloor)
floors_formed no_members = tt
floors_formed (member key d ms) =
    bind_if (read.floor_of key d) _ IsFloor (AllByRecursion IsFloor) (floor_formed key d) (λ f is.
    bind_if (read.floors_in ms) _ (AllByRecursion IsFloor) (AllByRecursion IsFloor) (floors_formed ms) (λ fs all. (is, all)))

record AreFloors (floors : List Floor) : Type 0 where
  forms : AllByRecursion IsFloor floors
  rising : FloorsRise floors

floors_of_formed : (d : Data) → IfSome (read.floors_of d) AreFloors
floors_of_formed d =
    bind_any (as_object d) _ AreFloors (λ ms.
    bind_if (read.floors_in ms) _ (AllByRecursion IsFloor) AreFloors (floors_formed ms) (λ floors all.
    under (are_rising floors) (Some floors) AreFloors (λ is. record { forms = all; rising = rising_from_test floors is })))

floors_at_formed : (d : Data) → IfSome (read.floors_at d) AreFloors
unfolding read.floors_at
floors_at_formed d = then_if read.floors_of (get (codes "floors") d) AreFloors floors_of_formed

counters_formed : (d : Data) → IfSome (read.counters_at d) AreIds
unfolding read.counters_at
counters_formed d =
    bind_if (id_at (codes "events") d) _ IsId AreIds (id_formed (codes "events") d) (λ events one.
    bind_if (id_at (codes "next_report") d) _ IsId AreIds (id_formed (codes "next_report") d) (λ next_report two.
    bind_if (id_at (codes "next_deferral") d) _ IsId AreIds (id_formed (codes "next_deferral") d) (λ next_deferral three.
    bind_if (id_at (codes "next_release") d) _ IsId AreIds (id_formed (codes "next_release") d) (λ next_release four.
    bind_if (id_at (codes "next_kept") d) _ IsId AreIds (id_formed (codes "next_kept") d) (λ next_kept five.
    record { events = one; next_report = two; next_deferral = three; next_release = four; next_kept = five })))))

meta_formed : (version : Version) (key : ℕ) (d : Data) → IfSome (read.meta_in version key d) IsMeta
meta_formed version key d =
    under (key == 0) (read.meta_of version d) IsMeta (λ nought.
    bind_if (moment_at (codes "now") d) _ IsMoment IsMeta (moment_formed (codes "now") d) (λ moment at.
    bind_if (read.counters_at d) _ AreIds IsMeta (counters_formed d) (λ counters are.
    bind_if (read.floors_at d) _ AreFloors IsMeta (floors_at_formed d) (λ floors good.
    under (read.is_meta version d) _ IsMeta (λ is. record {
      moment = at;
      counters = are;
      floors = good.forms;
      rising = good.rising;
    })))))

-- ---- reports and deferrals

report_tested : (r : KeptReport) → IsId r.id → IsMoment r.received → IsUtf8 r.text → is_report r ≡ true → IsReport r
unfolding is_report
report_tested r id at utf8 is =
    let parts = and_parts (bytes_eq (canonical (groups_of r.text)) r.text) (is_ok (read_of r.text r.received)) is in
    record { id = id; received = at; text = utf8; canonical = (bytes_eq-Decides (canonical (groups_of r.text)) r.text).0 parts.0; read = parts.1 }

report_formed : (id : ℕ) (d : Data) → IsId id → IfSome (read.report_of id d) IsReport
report_formed id d few =
    bind_if (moment_at (codes "received") d) _ IsMoment IsReport (moment_formed (codes "received") d) (λ received at.
    bind_any (text_at (codes "text") d) _ IsReport (λ text.
    under (has_members 2 d) _ IsReport (λ exact.
    under (is_utf8 text) _ IsReport (λ good.
    under (is_report (read.report_with id received text)) (Some (read.report_with id received text)) IsReport (report_tested (read.report_with id received text) few at (IsUtf8-from_is_utf8 text good))))))

deferral_formed : (id : ℕ) (d : Data) → IsId id → IfSome (read.deferral_of id d) IsDeferral
deferral_formed id d few =
    bind_if (moment_at (codes "found") d) _ IsMoment IsDeferral (moment_formed (codes "found") d) (λ found at.
    bind_if (option_and_then read.item (text_at (codes "item") d)) _ IsItem IsDeferral (item_formed d) (λ item one.
    bind_if (option_and_then read.tail (text_at (codes "tail") d)) _ IsTail IsDeferral (tail_formed d) (λ tail two.
    under (has_members 3 d) _ IsDeferral (λ exact. record { id = few; tail = two; item = one; found = at }))))

-- ---- kept replies

reply_formed : (d : Data) → IfSome (read.reply_of d) DoneHasForms
reply_formed d =
    bind_if (option_and_then done_of (get (codes "done") d)) _ DoneHasForms DoneHasForms (then_if done_of (get (codes "done") d) DoneHasForms (done_formed 1_000_000_000_000_000 4_294_967_295)) (λ done has.
    under (has_members 1 d) (Some done) DoneHasForms (λ exact. has))

done_at_formed : (d : Data) → IfSome (read.done_at d) DoneHasForms
done_at_formed d = then_if read.reply_of (get (codes "reply") d) DoneHasForms reply_formed

record IsStamp (s : Stamp) : Type 0 where
  at : IsMoment s.at
  digest : IsDigest s.digest
  number : IsRequest s.number
  done : DoneHasForms s.done

stamp_formed : (d : Data) → IfSome (read.stamp_of d) IsStamp
unfolding read.stamp_of
stamp_formed d =
    bind_if (moment_at (codes "at") d) _ IsMoment IsStamp (moment_formed (codes "at") d) (λ at one.
    bind_if (digest_at (codes "digest") d) _ IsDigest IsStamp (digest_is (codes "digest") d) (λ digest two.
    bind_if (number_at (codes "number") 1_000_000_000_000 d) _ IsRequest IsStamp (small_formed 1_000_000_000_000 (option_and_then as_u64 (option_and_then as_number (get (codes "number") d)))) (λ number three.
    bind_if (read.done_at d) _ DoneHasForms IsStamp (done_at_formed d) (λ done four.
    under (has_members 5 d) _ IsStamp (λ exact. record { at = one; digest = two; number = three; done = four })))))

kept_formed : (id : ℕ) (d : Data) → IsId id → IfSome (read.kept_of id d) IsKeptReply
kept_formed id d few =
    bind_if (read.stamp_of d) _ IsStamp IsKeptReply (stamp_formed d) (λ s is.
    bind_if (person_at (codes "actor") d) _ IsPerson IsKeptReply (person_at_formed (codes "actor") d) (λ actor person.
    record { id = few; actor = person; number = is.number; digest = is.digest; at = is.at; done = is.done }))

-- ---- alerts

record IsOpening (o : Opening) : Type 0 where
  opened : IsMoment o.opened
  version : IsId o.version
  first : 1 ≤ o.version

record IsVersion (version : ℕ) : Type 0 where
  few : IsId version
  first : 1 ≤ version

version_formed : (o : Option ℕ) → IfSome o IsId → IfSome (option_and_then read.from_one o) IsVersion
version_formed None few = tt
version_formed (Some version) few = under (nat_le 1 version) (Some version) IsVersion (λ is. record { few = few; first = leb-true 1 version is })

opening_formed : (d : Data) → IfSome (read.opening_of d) IsOpening
unfolding read.opening_of
opening_formed d =
    bind_any (bool_at (codes "acknowledged") d) _ IsOpening (λ acknowledged.
    bind_if (moment_at (codes "opened") d) _ IsMoment IsOpening (moment_formed (codes "opened") d) (λ opened at.
    bind_if (option_and_then read.from_one (id_at (codes "version") d)) _ IsVersion IsOpening (version_formed (id_at (codes "version") d) (id_formed (codes "version") d)) (λ version is.
    under (has_members 5 d) _ IsOpening (λ exact. record { opened = at; version = is.few; first = is.first }))))

finding_in_formed : (d : Data) → IfSome (finding_in d) IsFinding
finding_in_formed d = then_if finding_of (as_str d) IsFinding (finding_formed 1_000_000_000_000_000)

findings_formed : (ds : Items) → IfSome (findings_of ds) AreFindings
unfolding findings_of
findings_formed ds =
    bind_if (each_read finding_in ds) _ (AllByRecursion IsFinding) AreFindings (each_formed IsFinding finding_in finding_in_formed ds) (λ fs all.
    under (are_in_order fs) (Some fs) AreFindings (λ is. record { forms = all; order = (order_tested fs).0 is }))

findings_at_formed : (key : List ℕ) (d : Data) → IfSome (read.findings_at key d) AreFindings
findings_at_formed key d = then_if findings_of (list_at key d) AreFindings findings_formed

among_from_test : (others fs : List Finding) → are_among others fs ≡ true → AreAmong others fs
among_from_test others [] is = tt
among_from_test others (f ∷ fs) is =
    let parts = and_parts (is_among others f) (are_among others fs) is in
    (parts.0, among_from_test others fs parts.1)

alert_formed : (id : ℕ) (d : Data) → IsId id → IfSome (read.alert_of id d) IsKeptAlert
alert_formed id d few =
    bind_if (read.opening_of d) _ IsOpening IsKeptAlert (opening_formed d) (λ o is.
    bind_if (read.findings_at (codes "failing") d) _ AreFindings IsKeptAlert (findings_at_formed (codes "failing") d) (λ failing one.
    bind_if (read.findings_at (codes "ever") d) _ AreFindings IsKeptAlert (findings_at_formed (codes "ever") d) (λ ever two.
    under (are_among ever failing) _ IsKeptAlert (λ among. record {
      release = few;
      version = is.version;
      first = is.first;
      opened = is.opened;
      failing = one;
      ever = two;
      among = among_from_test ever failing among;
    }))))

-- ---- records

release_formed : (version : Version) (id : ℕ) (d : Data) → IsId id → IfSome (option_map Release (release_of version id d)) IsRecord
unfolding IsRecord
release_formed version id d few =
    mapped Release (release_of version id d) (λ r. IsKept r × (r.id ≡ id)) IsRecord (both_held (release_of version id d) IsKept (λ r. r.id ≡ id) (release_kept version id d) (release_named version id d)) (λ r held.
    (subst IsId (sym held.1) few, held.0))

in_formed : (version : Version) (kind id : ℕ) (d : Data) → IsId id → IfSome (read.record_in version kind id d) IsRecord
unfolding IsRecord
in_formed version kind id d few =
    either (kind == 0) _ _ IsRecord (mapped Meta (read.meta_in version id d) IsMeta IsRecord (meta_formed version id d) (λ m is. is))
    (either (kind == 1) _ _ IsRecord (mapped Report (read.report_of id d) IsReport IsRecord (report_formed id d few) (λ r is. is))
    (either (kind == 2) _ _ IsRecord (mapped Deferral (read.deferral_of id d) IsDeferral IsRecord (deferral_formed id d few) (λ f is. is))
    (either (kind == 3) _ _ IsRecord (release_formed version id d few)
    (either (kind == 4) _ _ IsRecord (mapped Kept (read.kept_of id d) IsKeptReply IsRecord (kept_formed id d few) (λ k is. is))
    (either (kind == 5) _ _ IsRecord (mapped Alert (read.alert_of id d) IsKeptAlert IsRecord (alert_formed id d few) (λ a is. is)) tt)))))

key_formed : (key : ℕ) → IfSome (up_to 1_000_000_000_000_000 key) IsId
key_formed key = under (nat_le key 1_000_000_000_000_000) (Some key) IsId (leb-true key 1_000_000_000_000_000)

pub record_formed : (version : Version) (kind key : ℕ) (d : Data) → IfSome (read.record_of version kind key d) IsRecord
unfolding read.record_of
record_formed version kind key d =
    bind_if (up_to 1_000_000_000_000_000 key) _ IsId IsRecord (key_formed key) (λ id few. in_formed version kind id d few)

-- ---- what is read in rows of a version is said by these whole

anything : {A : Type 0} (o : Option A) → IfSome o (λ x. Unit {0})
anything None = tt
anything (Some x) = tt

in_first : (kind id : ℕ) (d : Data) → IfSome (read.record_in First kind id d) (SaysRecord First)
in_first kind id d =
    either (kind == 0) _ _ (SaysRecord First) (mapped Meta (read.meta_in First id d) (λ m. Unit {0}) (SaysRecord First) (anything (read.meta_in First id d)) (λ m is. tt))
    (either (kind == 1) _ _ (SaysRecord First) (mapped Report (read.report_of id d) (λ r. Unit {0}) (SaysRecord First) (anything (read.report_of id d)) (λ r is. tt))
    (either (kind == 2) _ _ (SaysRecord First) (mapped Deferral (read.deferral_of id d) (λ f. Unit {0}) (SaysRecord First) (anything (read.deferral_of id d)) (λ f is. tt))
    (either (kind == 3) _ _ (SaysRecord First) (mapped Release (release_of First id d) (SaysRelease First) (SaysRecord First) (release_says First id d) (λ r says. says))
    (either (kind == 4) _ _ (SaysRecord First) (mapped Kept (read.kept_of id d) (λ k. Unit {0}) (SaysRecord First) (anything (read.kept_of id d)) (λ k is. tt))
    (either (kind == 5) _ _ (SaysRecord First) (mapped Alert (read.alert_of id d) (λ a. Unit {0}) (SaysRecord First) (anything (read.alert_of id d)) (λ a is. tt)) tt)))))

pub record_said : (version : Version) (kind key : ℕ) (d : Data) → IfSome (read.record_of version kind key d) (SaysRecord version)
unfolding read.record_of
record_said First kind key d = bind_any (up_to 1_000_000_000_000_000 key) _ (SaysRecord First) (λ id. in_first kind id d)
record_said Second kind key d = anything (up_to 1_000_000_000_000_000 key >>= λ id. read.record_in Second kind id d)

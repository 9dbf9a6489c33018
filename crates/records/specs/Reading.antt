-- The record that a row represents; the keys of its body are exactly those named here.
use Rattle.std.specs.Prelude.{◌≡◌, ℕ, ◌==◌, nat_le, ◌&&◌, Bool, false, if◌then◌else◌, List, [], ◌∷◌, Option, None, Some, Result, Ok, Err, codes, option_and_then, is_some}
use Rattle.std.specs.List.{list_any}
use Rattle.std.specs.Option.{option_map}
use Rattle.std.specs.Str.{bytes_eq, is_utf8}
use Rattle.serde_json.specs.Data.{Data, Members, no_members, member}
use Rattle.serde_json.specs.Find.{get, as_number, as_u64, as_object}
use Rattle.desk_time.specs.Digits.{◌>>=◌}
use Rattle.ops_tables.specs.Forms.{is_tail, is_item}
use Rattle.plan.specs.declared.findings.Finding.{Finding}
use Rattle.asks.specs.declared.kept.Floor.{Floor}
use Rattle.asks.specs.declared.kept.KeptReply.{KeptReply}
use Rattle.asks.specs.declared.reply.Done.{Done}
use Rattle.deferrals.specs.declared.items.Deferral.{Deferral as DeferralOf}
use Rattle.desk_io.specs.declared.rows.Row.{Row}
use Rattle.asks.specs.Digests.{digest_at}
use Rattle.asks.specs.Dones.{done_of}
use Rattle.asks.specs.Fields.{data_of, text_at, number_at, id_at, moment_at, list_at, has_members}
use Rattle.release_json.specs.Findings.{findings_of}
use Rattle.release_json.specs.Releases.{bool_at, person, person_at, release_of}
use Rattle.release_json.specs.Versions.{number_of}
use Rattle.release_json.specs.declared.version.Version.{Version}
use Rattle.release_json.specs.declared.version.Version.TheVariants.{First, Second}
use Rattle.records.specs.Bodies.{row_in}
use Rattle.records.specs.Valid.{IsMeta, IsRecord, SaysRecord, are_rising, is_report, are_among}
use Rattle.records.specs.declared.alert_rows.Opening.{Opening}
use Rattle.records.specs.declared.kept_rows.Stamp.{Stamp}
use Rattle.records.specs.declared.record.KeptAlert.{KeptAlert}
use Rattle.records.specs.declared.record.KeptReport.{KeptReport}
use Rattle.desk_state.specs.declared.counters.Counters.{Counters}
use Rattle.records.specs.declared.record.Meta.{Meta as MetaOf}
use Rattle.records.specs.declared.record.Record.{Record}
use Rattle.records.specs.declared.record.Record.TheVariants.{Meta, Report, Deferral, Release, Kept, Alert}
use Rattle.records.specs.declared.reading.RowFault.{RowFault}
use Rattle.records.specs.declared.reading.RowFault.TheVariants.{NotCanonical, OutOfMemory}
use Rattle.desk_time.specs.Moments.{up_to}

-- ---- the meta row

abbrev pub request_in : Data → Option ℕ
request_in d = option_and_then (up_to 1_000_000_000_000) (option_and_then as_u64 (as_number d))

-- the floor of a person, under his name
abbrev pub floor_of : List ℕ → Data → Option Floor
floor_of key d = person key >>= λ actor. request_in d >>= λ number. Some (record { actor = actor; number = number })

abbrev pub floors_in : Members → Option (List Floor)
floors_in no_members = Some []
floors_in (member key d ms) = floor_of key d >>= λ f. floors_in ms >>= λ fs. Some (f ∷ fs)

abbrev pub in_order : List Floor → Option (List Floor)
in_order floors = if are_rising floors then Some floors else None

abbrev pub floors_of : Data → Option (List Floor)
floors_of d = as_object d >>= λ ms. floors_in ms >>= λ floors. in_order floors

unfoldable pub floors_at : Data → Option (List Floor)
floors_at d = option_and_then floors_of (get (codes "floors") d)

unfoldable pub counters_at : Data → Option Counters
counters_at d =
    id_at (codes "events") d >>= λ events.
    id_at (codes "next_report") d >>= λ next_report.
    id_at (codes "next_deferral") d >>= λ next_deferral.
    id_at (codes "next_release") d >>= λ next_release.
    id_at (codes "next_kept") d >>= λ next_kept.
    Some (record { events = events; next_report = next_report; next_deferral = next_deferral; next_release = next_release; next_kept = next_kept })

abbrev pub is_number : ℕ → Option ℕ → Bool
is_number wanted None = false
is_number wanted (Some n) = n == wanted

-- eight members, one of which is the number of the version
abbrev pub is_meta : Version → Data → Bool
is_meta version d = has_members 8 d && is_number (number_of version) (id_at (codes "version") d)

abbrev pub meta_of : Version → Data → Option MetaOf
meta_of version d =
    moment_at (codes "now") d >>= λ moment. counters_at d >>= λ counters. floors_at d >>= λ floors.
    if is_meta version d then Some (record { moment = moment; counters = counters; floors = floors }) else None

abbrev pub meta_in : Version → ℕ → Data → Option MetaOf
meta_in version key d = if key == 0 then meta_of version d else None

-- ---- reports and deferrals

abbrev pub if_report : KeptReport → Option KeptReport
if_report r = if is_report r then Some r else None

abbrev pub report_with : ℕ → ℕ → List ℕ → KeptReport
report_with id received text = record { id = id; received = received; text = text }

-- a report whose text is UTF-8
abbrev pub utf8_report : KeptReport → Option KeptReport
utf8_report r = if is_utf8 r.text then if_report r else None

abbrev pub report_of : ℕ → Data → Option KeptReport
report_of id d =
    moment_at (codes "received") d >>= λ received. text_at (codes "text") d >>= λ text.
    if has_members 2 d then utf8_report (report_with id received text) else None

abbrev pub tail : List ℕ → Option (List ℕ)
tail t = if is_tail t then Some t else None

abbrev pub item : List ℕ → Option (List ℕ)
item t = if is_item t then Some t else None

abbrev pub deferral_of : ℕ → Data → Option DeferralOf
deferral_of id d =
    moment_at (codes "found") d >>= λ found. option_and_then item (text_at (codes "item") d) >>= λ item. option_and_then tail (text_at (codes "tail") d) >>= λ tail.
    if has_members 3 d then Some (record { id = id; tail = tail; item = item; found = found }) else None

-- ---- kept replies

abbrev pub reply_of : Data → Option Done
reply_of d = option_and_then done_of (get (codes "done") d) >>= λ done. if has_members 1 d then Some done else None

abbrev pub done_at : Data → Option Done
done_at d = option_and_then reply_of (get (codes "reply") d)

-- a kept reply without its id and its person
unfoldable pub stamp_of : Data → Option Stamp
stamp_of d =
    moment_at (codes "at") d >>= λ at. digest_at (codes "digest") d >>= λ digest. number_at (codes "number") 1_000_000_000_000 d >>= λ number. done_at d >>= λ done.
    if has_members 5 d then Some (record { at = at; digest = digest; number = number; done = done }) else None

abbrev pub kept_with : ℕ → List ℕ → Stamp → KeptReply
kept_with id actor s = record { id = id; actor = actor; number = s.number; digest = s.digest; at = s.at; done = s.done }

abbrev pub kept_of : ℕ → Data → Option KeptReply
kept_of id d = stamp_of d >>= λ s. person_at (codes "actor") d >>= λ actor. Some (kept_with id actor s)

-- ---- alerts

abbrev pub from_one : ℕ → Option ℕ
from_one version = if nat_le 1 version then Some version else None

-- an alert without its release and its findings
unfoldable pub opening_of : Data → Option Opening
opening_of d =
    bool_at (codes "acknowledged") d >>= λ acknowledged. moment_at (codes "opened") d >>= λ opened. option_and_then from_one (id_at (codes "version") d) >>= λ version.
    if has_members 5 d then Some (record { acknowledged = acknowledged; opened = opened; version = version }) else None

abbrev pub findings_at : List ℕ → Data → Option (List Finding)
findings_at key d = option_and_then findings_of (list_at key d)

abbrev pub alert_with : ℕ → Opening → List Finding → List Finding → KeptAlert
alert_with release o failing ever =
    record { release = release; version = o.version; opened = o.opened; failing = failing; ever = ever; acknowledged = o.acknowledged }

abbrev pub alert_of : ℕ → Data → Option KeptAlert
alert_of release d =
    opening_of d >>= λ o. findings_at (codes "failing") d >>= λ failing. findings_at (codes "ever") d >>= λ ever.
    if are_among ever failing then Some (alert_with release o failing ever) else None

-- ---- records

-- the record of a kind, an id and a body, in this version of rows
abbrev pub record_in : Version → ℕ → ℕ → Data → Option Record
record_in version kind id d =
    if kind == 0 then option_map Meta (meta_in version id d)
    else (if kind == 1 then option_map Report (report_of id d)
    else (if kind == 2 then option_map Deferral (deferral_of id d)
    else (if kind == 3 then option_map Release (release_of version id d)
    else (if kind == 4 then option_map Kept (kept_of id d)
    else (if kind == 5 then option_map Alert (alert_of id d) else None)))))

-- the record of a kind, a key of at most 10^15 and a body
unfoldable pub record_of : Version → ℕ → ℕ → Data → Option Record
record_of version kind key d = up_to 1_000_000_000_000_000 key >>= λ id. record_in version kind id d

-- the record that a row represents, with any white space and any order of its keys
unfoldable pub found_in : Version → Row → Option Record
found_in version row = data_of row.body >>= record_of version row.kind row.key

abbrev pub is_same_row : Row → Row → Bool
is_same_row one two = (one.kind == two.kind) && (one.key == two.key) && bytes_eq one.body two.body

abbrev pub if_has : Version → Row → Record → Option Record
if_has version row r = if is_same_row (row_in version r) row then Some r else None

-- the record that a row represents, if the row is the one that the desk writes
unfoldable pub record_with : Version → Row → Option Record
record_with version row = found_in version row >>= if_has version row

-- The result of reading a row: the valid record with that row, or none has it. Out of memory may come at any time.
abbrev pub ReadsRow : Version → Row → Result Record RowFault → Type 0
ReadsRow version row (Ok r) = IsRecord r × SaysRecord version r × (row_in version r ≡ row)
ReadsRow version row (Err NotCanonical) = (r : Record) → IsRecord r → SaysRecord version r → row_in version r ≡ row → ⊥
ReadsRow version row (Err OutOfMemory) = Unit {0}

-- the row of a valid record is read back as that record, or memory runs out
abbrev pub IsAgain : Record → Result Record RowFault → Type 0
IsAgain r (Ok x) = x ≡ r
IsAgain r (Err NotCanonical) = ⊥
IsAgain r (Err OutOfMemory) = Unit {0}

-- ---- the version of rows

-- the meta row of the first version
abbrev pub IsOldMeta : Row → Type 0
IsOldMeta row = (m : MetaOf) × IsMeta m × (row_in First (Meta m) ≡ row)

-- the same as a test
unfoldable pub is_old_meta : Row → Bool
is_old_meta row = (row.kind == 0) && is_some (record_with First row)

-- Rows are of the first version exactly if one of them is the meta row of that version.
abbrev pub are_old : List Row → Bool
are_old rows = list_any is_old_meta rows

abbrev pub version_if : Bool → Version
version_if old = if old then First else Second

-- the version of rows
abbrev pub version_of : List Row → Version
version_of rows = version_if (are_old rows)

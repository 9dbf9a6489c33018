-- Records as rows, whose bodies are canonical JSON: no white space, and keys in byte order.
use Rattle.std.specs.Prelude.{List, [], ◌∷◌, codes}
use Rattle.std.specs.Str.Lossy.{utf8_lossy}
use Rattle.serde_json.specs.Data.{Data, boolean, object, Members, member, no_members, put}
use Rattle.serde_json.specs.Written.{compact_text}
use Rattle.asks.specs.declared.kept.Floor.{Floor}
use Rattle.asks.specs.declared.kept.KeptReply.{KeptReply}
use Rattle.deferrals.specs.declared.items.Deferral.{Deferral as DeferralOf}
use Rattle.desk_io.specs.declared.rows.Row.{Row}
use Rattle.desk_time.specs.Limits.{IsMoment}
use Rattle.asks.specs.Canonical.{count, text_data, moment_data, done_data}
use Rattle.asks.specs.Digests.{digest_data}
use Rattle.release_json.specs.Findings.{findings_data}
use Rattle.release_json.specs.Rows.{release_data, ReleaseHasMoments}
use Rattle.release_json.specs.Versions.{number_of}
use Rattle.release_json.specs.declared.version.Version.{Version}
use Rattle.release_json.specs.declared.version.Version.TheVariants.{Second}
use Rattle.records.specs.Kinds.{kind_of, key_of}
use Rattle.records.specs.declared.record.KeptAlert.{KeptAlert}
use Rattle.records.specs.declared.record.KeptReport.{KeptReport}
use Rattle.records.specs.declared.record.Meta.{Meta as MetaOf}
use Rattle.records.specs.declared.record.Record.{Record}
use Rattle.records.specs.declared.record.Record.TheVariants.{Meta, Report, Deferral, Release, Kept, Alert}

-- Members with the floor of each person added under his name, in byte order.
abbrev pub with_floors : Members → List Floor → Members
with_floors ms [] = ms
with_floors ms (f ∷ fs) = with_floors (put (utf8_lossy f.actor) (count f.number) ms) fs

-- floors as an object from names to numbers
unfoldable pub floors_data : List Floor → Data
floors_data floors = object (with_floors no_members floors)

abbrev pub meta_members : Version → MetaOf → Members
meta_members version m =
    member (codes "events") (count m.counters.events)
    (member (codes "floors") (floors_data m.floors)
    (member (codes "next_deferral") (count m.counters.next_deferral)
    (member (codes "next_kept") (count m.counters.next_kept)
    (member (codes "next_release") (count m.counters.next_release)
    (member (codes "next_report") (count m.counters.next_report)
    (member (codes "now") (moment_data m.moment)
    (member (codes "version") (count (number_of version)) no_members)))))))

abbrev pub report_members : KeptReport → Members
report_members r = member (codes "received") (moment_data r.received) (member (codes "text") (text_data r.text) no_members)

abbrev pub deferral_members : DeferralOf → Members
deferral_members d =
    member (codes "found") (moment_data d.found) (member (codes "item") (text_data d.item) (member (codes "tail") (text_data d.tail) no_members))

-- the reply that an accepted request got
abbrev pub reply_members : KeptReply → Members
reply_members k = member (codes "done") (done_data k.done) no_members

abbrev pub kept_members : KeptReply → Members
kept_members k =
    member (codes "actor") (text_data k.actor)
    (member (codes "at") (moment_data k.at)
    (member (codes "digest") (digest_data k.digest)
    (member (codes "number") (count k.number)
    (member (codes "reply") (object (reply_members k)) no_members))))

abbrev pub alert_members : KeptAlert → Members
alert_members a =
    member (codes "acknowledged") (boolean a.acknowledged)
    (member (codes "ever") (findings_data a.ever)
    (member (codes "failing") (findings_data a.failing)
    (member (codes "opened") (moment_data a.opened)
    (member (codes "version") (count a.version) no_members))))

-- the JSON of a record's row, in this version of rows
unfoldable pub body_data : Version → Record → Data
body_data version (Meta m) = object (meta_members version m)
body_data version (Report r) = object (report_members r)
body_data version (Deferral d) = object (deferral_members d)
body_data version (Release r) = release_data version r
body_data version (Kept k) = object (kept_members k)
body_data version (Alert a) = object (alert_members a)

-- the row of a record, in this version of rows
unfoldable pub row_in : Version → Record → Row
row_in version r = record { kind = kind_of r; key = key_of r; body = compact_text (body_data version r) }

-- the row of a record as the desk writes it, in the second version
abbrev pub row_of : Record → Row
row_of r = row_in Second r

-- a record whose moments are from 2000 to 2099
abbrev pub HasMoments : Record → Type 0
HasMoments (Meta m) = IsMoment m.moment
HasMoments (Report r) = IsMoment r.received
HasMoments (Deferral d) = IsMoment d.found
HasMoments (Release r) = ReleaseHasMoments r
HasMoments (Kept k) = IsMoment k.at
HasMoments (Alert a) = IsMoment a.opened

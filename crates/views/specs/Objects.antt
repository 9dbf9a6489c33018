-- What a view shows as a JSON object, with its keys in byte order. Units are in the keys: feet, metres, millimetres.
-- Moments are texts.
use Rattle.std.specs.Prelude.{ℕ, Bool, true, false, List, Option, None, Some, codes, ◌/◌}
use Rattle.std.specs.Option.{option_map}
use Rattle.hex.specs.Hex.{encode_lower}
use Rattle.serde_json.specs.Data.{Data, null, boolean, object, Members, member, no_members, put, string}
use Rattle.alerts.specs.declared.alert.Alert.{Alert}
use Rattle.asks.specs.Canonical.{count, text_data, moment_data, option_data, list_data}
use Rattle.facts.specs.declared.report.Read.{Read}
use Rattle.facts.specs.declared.report.Read.TheVariants as read
use Rattle.facts.specs.declared.report.Report.{Report}
use Rattle.plan.specs.declared.release.Phase.{Phase}
use Rattle.plan.specs.declared.release.Phase.TheVariants.{Drafted, Ready, Flying, Stopped, Completed, Cancelled}
use Rattle.plan.specs.declared.release.Release.{Release}
use Rattle.plan.specs.declared.release.Revision.{Revision}
use Rattle.plan.specs.declared.release.Signature.{Signature}
use Rattle.release_json.specs.Findings.{findings_data}
use Rattle.release_json.specs.Rows as row
use Rattle.release_json.specs.declared.version.Version.TheVariants.{Second}
use Rattle.release_text.specs.Revisions.{revision_digest, revision_text}
use Rattle.views.specs.Shown.{AlertsShown, BoardShown, DeferredShown, DetailShown, FlightShown, ItemShown, PendingShown, ReleaseShown, WeatherShown}
use Rattle.weather_reports.specs.declared.forecast.Part.{Part}
use Rattle.weather_reports.specs.declared.forecast.PartKind.{PartKind}
use Rattle.weather_reports.specs.declared.forecast.PartKind.TheVariants as part_kind
use Rattle.weather_reports.specs.declared.forecast.Taf.{Taf}
use Rattle.weather_reports.specs.declared.forecast.TafState.{TafState}
use Rattle.weather_reports.specs.declared.forecast.TafState.TheVariants as taf_state
use Rattle.weather_reports.specs.declared.metar.Metar.{Metar}

-- ---- an alert

abbrev pub alert_members : Alert → Members
alert_members a =
    member (codes "acknowledged") (boolean a.acknowledged)
    (member (codes "dispatcher") (text_data a.desk)
    (member (codes "ever") (findings_data a.ever)
    (member (codes "failing") (findings_data a.failing)
    (member (codes "opened") (moment_data a.opened)
    (member (codes "release") (count a.release)
    (member (codes "version") (count a.version) no_members))))))

abbrev pub with_findings : Alert → Members → Members
with_findings a ms = put (codes "failing") (findings_data a.failing) (put (codes "ever") (findings_data a.ever) ms)

-- the rules that fail and that have failed since the alert opened, its version, and whether that is acknowledged
unfoldable pub alert_data : Alert → Data
alert_data a = object (alert_members a)

abbrev pub alerts_members : AlertsShown → Members
alerts_members a = member (codes "alerts") (list_data alert_data a.alerts) (member (codes "at") (moment_data a.at) no_members)

-- ---- the board

abbrev pub named : List ℕ → Members
named name = member (codes "name") (string name) no_members

abbrev pub ended_members : List ℕ → ℕ → Members
ended_members name at = member (codes "at") (moment_data at) (named name)

-- a phase by its name, with the leg in flight, the leg that departs next, or the moment of its end
abbrev pub phase_members : Phase → Members
phase_members Drafted = named (codes "drafted")
phase_members Ready = named (codes "ready")
phase_members (Flying leg) = member (codes "leg") (count leg) (named (codes "flying"))
phase_members (Stopped next since again) =
    member (codes "again") (boolean again)
    (member (codes "name") (string (codes "stopped"))
    (member (codes "next") (count next)
    (member (codes "since") (moment_data since) no_members)))
phase_members (Completed at) = ended_members (codes "completed") at
phase_members (Cancelled at) = ended_members (codes "cancelled") at

abbrev pub phase_data : Phase → Data
phase_data phase = object (phase_members phase)

-- who signed, and when
abbrev pub signed_members : Signature → Members
signed_members s = member (codes "at") (moment_data s.at) (member (codes "by") (text_data s.actor) no_members)

abbrev pub signed_data : Signature → Data
signed_data s = object (signed_members s)

abbrev pub pending_members : PendingShown → Members
pending_members p =
    member (codes "prepared") (boolean p.prepared)
    (member (codes "revision") (count p.revision)
    (member (codes "signed") (option_data signed_data p.signed) no_members))

abbrev pub pending_data : PendingShown → Data
pending_data p = object (pending_members p)

-- the flight of a release, and its aircraft
unfoldable pub flight_data : Option FlightShown → Data
flight_data None = null
flight_data (Some f) = text_data f.flight

unfoldable pub tail_data : Option FlightShown → Data
tail_data None = null
tail_data (Some f) = text_data f.tail

abbrev pub release_front : ReleaseShown → Members
release_front r =
    member (codes "active") (option_data count r.active)
    (member (codes "alert") (option_data alert_data r.alert)
    (member (codes "dispatcher") (text_data r.dispatcher)
    (member (codes "flight") (flight_data r.flight) no_members)))

abbrev pub release_members : ReleaseShown → Members
release_members r =
    member (codes "active") (option_data count r.active)
    (member (codes "alert") (option_data alert_data r.alert)
    (member (codes "dispatcher") (text_data r.dispatcher)
    (member (codes "flight") (flight_data r.flight)
    (member (codes "pending") (option_data pending_data r.pending)
    (member (codes "phase") (phase_data r.phase)
    (member (codes "release") (count r.release)
    (member (codes "tail") (tail_data r.flight) no_members)))))))

-- a release on the board
unfoldable pub release_data : ReleaseShown → Data
release_data r = object (release_members r)

abbrev pub board_members : BoardShown → Members
board_members b = member (codes "at") (moment_data b.at) (member (codes "releases") (list_data release_data b.releases) no_members)

-- ---- a release

-- the text that is signed, and its digest in lower-case hexadecimal
abbrev pub text_members : Revision → Members
text_members v = member (codes "digest") (text_data (encode_lower (revision_digest v))) (member (codes "text") (text_data (revision_text v)) no_members)

abbrev pub signable_data : Revision → Data
signable_data v = object (text_members v)

-- Only a prepared revision has a text to sign.
abbrev pub prepared_data : Bool → Revision → Data
prepared_data true v = signable_data v
prepared_data false v = null

unfoldable pub pending_text_data : Option Revision → Data
pending_text_data None = null
pending_text_data (Some v) = prepared_data v.prepared v

-- a release as its row records it
abbrev pub record_data : Release → Data
record_data r = row.release_data Second r

abbrev pub detail_front : DetailShown → Members
detail_front d =
    member (codes "active") (option_data signable_data d.release.active)
    (member (codes "alert") (option_data alert_data d.alert)
    (member (codes "at") (moment_data d.at) no_members))

-- the texts of the active and the pending revision, the alert, and the release as its row records it: the plan, the
-- attached reports and the signatures of each revision
abbrev pub detail_members : DetailShown → Members
detail_members d =
    member (codes "active") (option_data signable_data d.release.active)
    (member (codes "alert") (option_data alert_data d.alert)
    (member (codes "at") (moment_data d.at)
    (member (codes "pending") (pending_text_data d.release.pending)
    (member (codes "record") (record_data d.release)
    (member (codes "release") (count d.release.id) no_members)))))

-- ---- weather

-- millimetres in whole metres, rounded down
abbrev pub metres : ℕ → ℕ
metres vis = vis / 1000

abbrev pub metres_data : Option ℕ → Data
metres_data vis = option_data count (option_map metres vis)

abbrev pub with_visibility : Option ℕ → Members → Members
with_visibility vis ms = put (codes "visibility_mm") (option_data count vis) (put (codes "visibility_m") (metres_data vis) ms)

abbrev pub metar_front : ℕ → Metar → Members
metar_front id m =
    member (codes "ceiling_ft") (option_data count m.cond.ceiling)
    (member (codes "nil") (boolean m.nil)
    (member (codes "observed") (moment_data m.observed)
    (member (codes "report") (count id) no_members)))

-- an observation of this number and canonical text (FMH-1)
abbrev pub metar_members : ℕ → List ℕ → Metar → Members
metar_members id text m =
    member (codes "ceiling_ft") (option_data count m.cond.ceiling)
    (member (codes "nil") (boolean m.nil)
    (member (codes "observed") (moment_data m.observed)
    (member (codes "report") (count id)
    (member (codes "special") (boolean m.special)
    (member (codes "text") (text_data text)
    (member (codes "unread") (count m.unread)
    (member (codes "visibility_m") (metres_data m.cond.vis)
    (member (codes "visibility_mm") (option_data count m.cond.vis) no_members))))))))

abbrev pub state_name : TafState → List ℕ
state_name taf_state.Normal = codes "normal"
state_name taf_state.Nil = codes "nil"
state_name taf_state.Cancelled = codes "cancelled"

abbrev pub part_kind_name : PartKind → List ℕ
part_kind_name part_kind.Base = codes "base"
part_kind_name part_kind.From = codes "from"
part_kind_name part_kind.Becoming = codes "becoming"
part_kind_name part_kind.Tempo = codes "tempo"
part_kind_name part_kind.Prob = codes "prob"

abbrev pub part_members : Part → Members
part_members p =
    member (codes "ceiling_ft") (option_data count p.cond.ceiling)
    (member (codes "from") (moment_data p.from)
    (member (codes "kind") (string (part_kind_name p.kind))
    (member (codes "to") (moment_data p.to)
    (member (codes "visibility_m") (metres_data p.cond.vis)
    (member (codes "visibility_mm") (option_data count p.cond.vis) no_members)))))

-- a part of a forecast: its kind, its period and its condition
unfoldable pub part_data : Part → Data
part_data p = object (part_members p)

abbrev pub taf_front : Taf → Members
taf_front t = member (codes "from") (moment_data t.from) (member (codes "issued") (moment_data t.issued) (member (codes "parts") (list_data part_data t.parts) no_members))

-- a forecast of this number and canonical text (WMO FM 51)
abbrev pub taf_members : ℕ → List ℕ → Taf → Members
taf_members id text t =
    member (codes "from") (moment_data t.from)
    (member (codes "issued") (moment_data t.issued)
    (member (codes "parts") (list_data part_data t.parts)
    (member (codes "report") (count id)
    (member (codes "state") (string (state_name t.state))
    (member (codes "text") (text_data text)
    (member (codes "to") (moment_data t.to) no_members))))))

abbrev pub read_members : ℕ → List ℕ → Read → Members
read_members id text (read.Metar metar) = metar_members id text metar
read_members id text (read.Taf taf) = taf_members id text taf

-- a report with its number, its canonical text, and what was read of it
abbrev pub report_data : Report → Data
report_data r = object (read_members r.id r.text r.read)

abbrev pub weather_members : WeatherShown → Members
weather_members w =
    member (codes "at") (moment_data w.at)
    (member (codes "metar") (option_data report_data w.metar)
    (member (codes "station") (text_data w.station)
    (member (codes "taf") (option_data report_data w.taf) no_members)))

-- ---- deferred items

abbrev pub item_members : ItemShown → Members
item_members i =
    member (codes "deferral") (count i.deferral)
    (member (codes "due") (option_data moment_data i.due)
    (member (codes "found") (moment_data i.found)
    (member (codes "item") (text_data i.item) no_members)))

-- a deferred item (14 CFR 121.628)
unfoldable pub item_data : ItemShown → Data
item_data i = object (item_members i)

abbrev pub deferred_members : DeferredShown → Members
deferred_members d = member (codes "at") (moment_data d.at) (member (codes "deferrals") (list_data item_data d.items) (member (codes "tail") (text_data d.tail) no_members))

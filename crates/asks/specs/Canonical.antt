-- The JSON of plans, asks and results, with the keys of each object in byte order.
use Rattle.std.specs.Prelude.{ℕ, List, map, Option, None, Some, codes}
use Rattle.std.specs.Str.Lossy.{utf8_lossy}
use Rattle.serde_json.specs.Data.{Data, null, object, Members, member, no_members, put, number, unsigned, string, array}
use Rattle.serde_json.specs.View.{items_of}
use Rattle.serde_json.specs.Written.{compact_text}
use Rattle.sha2.specs.Sha256.{sha256}
use Rattle.desk_time.specs.Moments.{shown}
use Rattle.plan.specs.declared.flights.Kind.{Kind}
use Rattle.plan.specs.declared.flights.Kind.TheVariants.{Domestic, Flag}
use Rattle.plan.specs.declared.flights.Alternate.{Alternate}
use Rattle.plan.specs.declared.flights.TakeoffAlternate.{TakeoffAlternate}
use Rattle.plan.specs.declared.flights.Leg.{Leg}
use Rattle.plan.specs.declared.flights.Plan.{Plan}
use Rattle.asks.specs.declared.call.Ask.{Ask}
use Rattle.asks.specs.declared.call.Ask.TheVariants.{Admit, Defer, Clear, Draft, Prepare, Sign, Concur, Amend, Cancel, Depart, Arrive, Acknowledge, Purge, Sweep, ViewBoard, ViewAlerts, ViewRelease, ViewWeather, ViewDeferred}
use Rattle.asks.specs.declared.reply.Done.{Done}
use Rattle.asks.specs.declared.reply.Done.TheVariants.{Report, Deferral, Filed, Prepared, Release, Swept}
use Rattle.asks.specs.Digests.{digest_data}

-- ---- numbers, texts, lists

abbrev pub count : ℕ → Data
count n = number (unsigned n)

-- A text as a JSON string. Every text of the desk is UTF-8. Other bytes would become the replacement character.
abbrev pub text_data : List ℕ → Data
text_data t = string (utf8_lossy t)

-- a moment, for example 2025-03-12T17:00Z
abbrev pub moment_data : ℕ → Data
moment_data at = text_data (shown at)

-- null if there is no value
abbrev pub option_data : {A : Type 0} → (A → Data) → Option A → Data
option_data written None = null
option_data written (Some x) = written x

abbrev pub list_data : {A : Type 0} → (A → Data) → List A → Data
list_data written xs = array (items_of (map written xs))

-- ---- plans

abbrev pub alternate_members : Alternate → Members
alternate_members a = member (codes "fuel") (count a.fuel) (member (codes "minutes") (count a.minutes) (member (codes "station") (text_data a.station) no_members))

-- the JSON of an alternate
abbrev pub alternate_data : Alternate → Data
alternate_data a = object (alternate_members a)

abbrev pub takeoff_members : TakeoffAlternate → Members
takeoff_members t = member (codes "minutes") (count t.minutes) (member (codes "station") (text_data t.station) no_members)

-- the JSON of a takeoff alternate
abbrev pub takeoff_data : TakeoffAlternate → Data
takeoff_data t = object (takeoff_members t)

abbrev pub leg_members : Leg → Members
leg_members l =
    member (codes "alternates") (list_data alternate_data l.alternates)
    (member (codes "burn") (count l.burn)
    (member (codes "eta") (moment_data l.eta)
    (member (codes "etd") (moment_data l.etd)
    (member (codes "extra") (count l.extra)
    (member (codes "from") (text_data l.from)
    (member (codes "minimum") (count l.minimum)
    (member (codes "minutes") (count l.minutes)
    (member (codes "onboard") (count l.onboard)
    (member (codes "takeoff_alternate") (option_data takeoff_data l.takeoff_alternate)
    (member (codes "to") (text_data l.to) no_members))))))))))

-- the JSON of a leg
abbrev pub leg_data : Leg → Data
leg_data l = object (leg_members l)

abbrev pub kind_name : Kind → List ℕ
kind_name Domestic = codes "domestic"
kind_name Flag = codes "flag"

abbrev pub plan_members : Plan → Members
plan_members p =
    member (codes "captain") (text_data p.captain)
    (member (codes "flight") (text_data p.flight)
    (member (codes "kind") (string (kind_name p.kind))
    (member (codes "legs") (list_data leg_data p.legs)
    (member (codes "tail") (text_data p.tail) no_members))))

-- the JSON of a plan
unfoldable pub plan_data : Plan → Data
plan_data p = object (plan_members p)

-- ---- asks

-- the name of an ask
abbrev pub ask_name : Ask → List ℕ
ask_name (Admit text) = codes "admit"
ask_name (Defer tail item found) = codes "defer"
ask_name (Clear deferral) = codes "clear"
ask_name (Draft plan) = codes "draft"
ask_name (Prepare release) = codes "prepare"
ask_name (Sign release revision digest) = codes "sign"
ask_name (Concur release revision digest) = codes "concur"
ask_name (Amend release plan) = codes "amend"
ask_name (Cancel release) = codes "cancel"
ask_name (Depart release leg) = codes "depart"
ask_name (Arrive release leg) = codes "arrive"
ask_name (Acknowledge release version) = codes "acknowledge"
ask_name (Purge release) = codes "purge"
ask_name (Sweep before) = codes "sweep"
ask_name ViewBoard = codes "board"
ask_name ViewAlerts = codes "alerts"
ask_name (ViewRelease release) = codes "release"
ask_name (ViewWeather station) = codes "weather"
ask_name (ViewDeferred tail) = codes "deferred"

-- Adds the members of an ask other than its name, each in byte order of the keys.
abbrev pub with_asked : Ask → Members → Members
with_asked (Admit text) ms = put (codes "text") (text_data text) ms
with_asked (Defer tail item found) ms = put (codes "tail") (text_data tail) (put (codes "item") (text_data item) (put (codes "found") (moment_data found) ms))
with_asked (Clear deferral) ms = put (codes "deferral") (count deferral) ms
with_asked (Draft plan) ms = put (codes "plan") (plan_data plan) ms
with_asked (Prepare release) ms = put (codes "release") (count release) ms
with_asked (Sign release revision digest) ms = put (codes "digest") (digest_data digest) (put (codes "revision") (count revision) (put (codes "release") (count release) ms))
with_asked (Concur release revision digest) ms = put (codes "digest") (digest_data digest) (put (codes "revision") (count revision) (put (codes "release") (count release) ms))
with_asked (Amend release plan) ms = put (codes "plan") (plan_data plan) (put (codes "release") (count release) ms)
with_asked (Cancel release) ms = put (codes "release") (count release) ms
with_asked (Depart release leg) ms = put (codes "leg") (count leg) (put (codes "release") (count release) ms)
with_asked (Arrive release leg) ms = put (codes "leg") (count leg) (put (codes "release") (count release) ms)
with_asked (Acknowledge release version) ms = put (codes "version") (count version) (put (codes "release") (count release) ms)
with_asked (Purge release) ms = put (codes "release") (count release) ms
with_asked (Sweep before) ms = put (codes "before") (moment_data before) ms
with_asked ViewBoard ms = ms
with_asked ViewAlerts ms = ms
with_asked (ViewRelease release) ms = put (codes "release") (count release) ms
with_asked (ViewWeather station) ms = put (codes "station") (text_data station) ms
with_asked (ViewDeferred tail) ms = put (codes "tail") (text_data tail) ms

-- the members of an ask
abbrev pub ask_members : Ask → Members
ask_members a = with_asked a (member (codes "do") (string (ask_name a)) no_members)

-- the JSON of an ask
unfoldable pub ask_data : Ask → Data
ask_data a = object (ask_members a)

-- the SHA-256 of the compact JSON
unfoldable pub ask_digest : Ask → List ℕ
ask_digest a = sha256 (compact_text (ask_data a))

-- ---- results

-- the members of a result
abbrev pub done_members : Done → Members
done_members (Report id) = member (codes "report") (count id) no_members
done_members (Deferral id) = member (codes "deferral") (count id) no_members
done_members (Filed release revision) = member (codes "release") (count release) (member (codes "revision") (count revision) no_members)
done_members (Prepared release revision digest) =
    member (codes "digest") (digest_data digest) (member (codes "release") (count release) (member (codes "revision") (count revision) no_members))
done_members (Release id) = member (codes "release") (count id) no_members
done_members (Swept reports kept) = member (codes "kept") (count kept) (member (codes "reports") (count reports) no_members)

-- the JSON of a result
abbrev pub done_data : Done → Data
done_data done = object (done_members done)

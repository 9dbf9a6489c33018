-- What each accepted ask may change and reply, as relations between the states before and after.
use Rattle.std.specs.Prelude.{◌≡◌, ◌≢◌, ◌⊎◌, ℕ, ◌+◌, ◌<◌, ◌≤◌, ◌==◌, ◌&&◌, Bool, true, false, List, [], ◌∷◌, ◌++◌, length, Option, None, Some, IfSome, Result, Ok, Err}
use Rattle.std.specs.List.{AllByRecursion, list_any}
use Rattle.std.specs.Str.{bytes_eq}
use Rattle.codes.specs.Groups.{groups_of, canonical}
use Rattle.ops_tables.specs.Tables.{TableRows, actor_of, type_of, has_airport, has_item}
use Rattle.ops_tables.specs.declared.rows.TypeRow.{TypeRow}
use Rattle.ops_tables.specs.Rows.{Actor}
use Rattle.ops_tables.specs.declared.rows.Role.{Role}
use Rattle.ops_tables.specs.declared.rows.Role.TheVariants.{D, C, F, M, S}
use Rattle.deferrals.specs.declared.items.Deferral.{Deferral}
use Rattle.deferrals.specs.Held.{has_id}
use Rattle.facts.specs.Reading.{read_of}
use Rattle.facts.specs.Same.{station_of_report}
use Rattle.plan.specs.Change.{change_fault}
use Rattle.plan.specs.Check.{plan_fault}
use Rattle.release_text.specs.Revisions.{revision_digest}
use Rattle.release_text.specs.Weather.{attached_to, newer_than}
use Rattle.alerts.specs.declared.alert.Alert.{Alert}
use Rattle.release_index.specs.Below.{findings_of}
use Rattle.facts.specs.declared.report.Report.{Report}
use Rattle.plan.specs.declared.flights.Plan.{Plan}
use Rattle.plan.specs.declared.release.Phase.{Phase}
use Rattle.plan.specs.declared.release.Phase.TheVariants.{Drafted, Ready, Flying, Stopped, Completed, Cancelled}
use Rattle.plan.specs.declared.release.Signature.{Signature}
use Rattle.plan.specs.declared.release.Release.{Release}
use Rattle.plan.specs.declared.release.Revision.{Revision}
use Rattle.asks.specs.declared.call.Ask.{Ask}
use Rattle.asks.specs.declared.call.Ask.TheVariants as ask
use Rattle.asks.specs.declared.call.Call.{Call}
use Rattle.asks.specs.declared.reply.Refusal.{Refusal}
use Rattle.asks.specs.declared.reply.Done.{Done as DoneType}
use Rattle.asks.specs.declared.reply.Done.TheVariants as done
use Rattle.asks.specs.declared.reply.Reply.{Reply}
use Rattle.asks.specs.declared.reply.Reply.TheVariants.{Done, Seen, Refused}
use Rattle.desk_state.specs.declared.effect.Effect.{Effect}
use Rattle.desk_state.specs.Effects as effect
use Rattle.desk_state.specs.declared.effect.Decision.{Decision}
use Rattle.desk_state.specs.declared.effect.Decision.TheVariants.{Show, Do}
use Rattle.desk_state.specs.declared.entry.Entry.{Entry}
use Rattle.desk_state.specs.declared.entry.What.{What}
use Rattle.desk_state.specs.declared.entry.What.TheVariants as what
use Rattle.desk_state.specs.State.{State, grounds_of, failing_of, release_at, alert_at}
use Rattle.desk_state.specs.Events.{effected, moment_after, reports_after, reports_swept, deferrals_after, releases_after, kept_after, floors_after}
use Rattle.desk_state.specs.Decide.{once_signed, kept_until, attached_reports, reports_before}
use Rattle.desk_state.specs.Hours.{captain_hours}
use Rattle.desk_state.specs.Requests.{kept_at, floor_at, raised_by, kept_before}
use Rattle.asks.specs.Canonical.{ask_digest}
use Rattle.asks.specs.declared.kept.Floor.{Floor}
use Rattle.asks.specs.declared.kept.KeptReply.{KeptReply}
use Rattle.desk_state.specs.People.{may_ask}
use Rattle.desk_state.specs.Step.{entered, full_reply, kept_reply}
use Rattle.desk_state.specs.declared.effect.OnAlerts.{OnAlerts}
use Rattle.desk_state.specs.declared.effect.OnAlerts.TheVariants as on_alerts
use Rattle.alerts.specs.Follows.{Follows}
use Rattle.plan.specs.declared.findings.Finding.{Finding}

-- a signature by this person at this moment, on the text with this digest
abbrev pub IsSignedBy : List ℕ → ℕ → List ℕ → Option Signature → Type 0
IsSignedBy actor moment digest None = ⊥
IsSignedBy actor moment digest (Some signature) = (signature.actor ≡ actor) × (signature.at ≡ moment) × (signature.digest ≡ digest)

-- A pending revision may be signed under a number and a digest. It is prepared and has that number, and its text has
-- that digest. The latest weather is attached, and it fails no rule, judged as if both had signed.
pub record MaySign (s : State) (number : ℕ) (digest : List ℕ) (q : Release) (v : Revision) : Type 0 where
  pub numbered : v.number ≡ number
  pub prepared : v.prepared ≡ true
  pub text : revision_digest v ≡ digest
  pub newest_weather : newer_than s.reports v.plan q.phase v.attached ≡ None
  pub passes : findings_of v.plan (once_signed q.phase) (grounds_of s) ≡ []

-- two revisions have the same number, plan and weather, and are both prepared or not
pub record IsSameText (v w : Revision) : Type 0 where
  pub number : w.number ≡ v.number
  pub plan : w.plan ≡ v.plan
  pub prepared : w.prepared ≡ v.prepared
  pub attached : w.attached ≡ v.attached

-- a revision gains the dispatcher's signature, and no other part changes
pub record GainsDispatcher (s : State) (actor : List ℕ) (asked : ℕ) (digest : List ℕ) (q : Release) (v w : Revision) : Type 0 where
  pub may : MaySign s asked digest q v
  pub unsigned : v.dispatcher ≡ None
  pub same : IsSameText v w
  pub dispatcher : IsSignedBy actor s.moment digest w.dispatcher
  pub captain : w.captain ≡ v.captain
  pub hours : w.hours ≡ v.hours

-- A revision gains the captain's signature, after the dispatcher's. It also gains the captain's hours in the type, by
-- the tables. No other part changes.
pub record GainsCaptain (s : State) (actor : List ℕ) (asked : ℕ) (digest : List ℕ) (q : Release) (v w : Revision) : Type 0 where
  pub may : MaySign s asked digest q v
  pub signed : v.dispatcher ≢ None
  pub own : v.plan.captain ≡ actor
  pub same : IsSameText v w
  pub dispatcher : w.dispatcher ≡ v.dispatcher
  pub captain : IsSignedBy actor s.moment digest w.captain
  pub hours : w.hours ≡ Some (captain_hours s.tables v.plan)

-- a revision gains the latest weather, and loses the signatures on its earlier text
pub record GainsWeather (s : State) (q : Release) (v w : Revision) : Type 0 where
  pub number : w.number ≡ v.number
  pub plan : w.plan ≡ v.plan
  pub prepared : w.prepared ≡ true
  pub attached : w.attached ≡ attached_to s.reports v.plan q.phase
  pub dispatcher : w.dispatcher ≡ None
  pub captain : w.captain ≡ None
  pub hours : w.hours ≡ None

abbrev pub BothAre : (Revision → Revision → Type 0) → Option Revision → Option Revision → Type 0
BothAre R None w = ⊥
BothAre R (Some v) None = ⊥
BothAre R (Some v) (Some w) = R v w

-- a release keeps its id and its holder
pub record IsSameRelease (q r : Release) : Type 0 where
  pub id : r.id ≡ q.id
  pub holder : r.holder ≡ q.holder

-- The dispatcher who holds a release prepares its pending revision. The latest weather is attached, and signatures on
-- the earlier text are void.
pub record IsPreparing (s : State) (actor : List ℕ) (q r : Release) : Type 0 where
  pub own : q.holder ≡ actor
  pub same : IsSameRelease q r
  pub phase : r.phase ≡ q.phase
  pub active : r.active ≡ q.active
  pub pending : BothAre (GainsWeather s q) q.pending r.pending

-- the dispatcher who holds a release signs its pending revision
pub record IsSigning (s : State) (actor : List ℕ) (number : ℕ) (digest : List ℕ) (q r : Release) : Type 0 where
  pub own : q.holder ≡ actor
  pub same : IsSameRelease q r
  pub phase : r.phase ≡ q.phase
  pub active : r.active ≡ q.active
  pub pending : BothAre (GainsDispatcher s actor number digest q) q.pending r.pending

-- How a captain's signature changes a phase: a draft becomes ready, and a stopped flight is released again. Any other
-- phase stays.
abbrev pub IsReleased : Phase → Phase → Type 0
IsReleased Drafted phase = phase ≡ Ready
IsReleased Ready phase = phase ≡ Ready
IsReleased (Flying leg) phase = phase ≡ Flying leg
IsReleased (Stopped next since again) phase = phase ≡ Stopped next since true
IsReleased (Completed at) phase = phase ≡ Completed at
IsReleased (Cancelled at) phase = phase ≡ Cancelled at

-- a captain's signature makes the pending revision of a release its active one
pub record IsConcurring (s : State) (actor : List ℕ) (number : ℕ) (digest : List ℕ) (q r : Release) : Type 0 where
  pub same : IsSameRelease q r
  pub phase : IsReleased q.phase r.phase
  pub active : BothAre (GainsCaptain s actor number digest q) q.pending r.active
  pub pending : r.pending ≡ None

-- a phase that is neither completed nor cancelled
abbrev pub HasNotEnded : Phase → Type 0
HasNotEnded phase = (at : ℕ) → (phase ≢ Completed at) × (phase ≢ Cancelled at)

-- the holder cancels a release that hasn't ended, and its pending revision is discarded
pub record IsCancelling (s : State) (actor : List ℕ) (q r : Release) : Type 0 where
  pub own : q.holder ≡ actor
  pub once : HasNotEnded q.phase
  pub same : IsSameRelease q r
  pub phase : r.phase ≡ Cancelled s.moment
  pub active : r.active ≡ q.active
  pub pending : r.pending ≡ None

-- a revision of a plan under a number, without weather or signatures
abbrev pub IsFresh : ℕ → Plan → Option Revision → Type 0
IsFresh number plan None = ⊥
IsFresh number plan (Some v) = (v.number ≡ number) × (v.plan ≡ plan) × (v.prepared ≡ false) × (v.attached ≡ []) × (v.dispatcher ≡ None) × (v.captain ≡ None) × (v.hours ≡ None)

-- a new release of a valid plan, held by the dispatcher who drafts it, while fewer than 20,000 are stored
pub record IsDrafted (s : State) (actor : List ℕ) (plan : Plan) (r : Release) : Type 0 where
  pub passes : plan_fault s.tables plan ≡ None
  pub few : length s.releases < 20_000
  pub is_new : r.id ≡ s.counters.next_release
  pub holder : r.holder ≡ actor
  pub phase : r.phase ≡ Drafted
  pub pending : IsFresh 1 plan r.pending
  pub active : r.active ≡ None

-- a plan passes all tests, and may replace the plan of a revision
pub record MayAmend (s : State) (plan : Plan) (phase : Phase) (v : Revision) : Type 0 where
  pub passes : plan_fault s.tables plan ≡ None
  pub follows : change_fault plan v.plan phase ≡ None

-- a plan replaces that of a revision, in a new revision with the next number
abbrev pub IsAmended : State → Plan → Phase → Revision → Option Revision → ℕ → Type 0
IsAmended s plan phase v pending number = MayAmend s plan phase v × (number ≡ v.number + 1) × IsFresh number plan pending

-- The plan replaces that of the pending revision, or of the active one if none is pending.
abbrev pub IsNextRevision : State → Plan → Phase → Option Revision → Option Revision → Option Revision → ℕ → Type 0
IsNextRevision s plan phase (Some v) active pending number = IsAmended s plan phase v pending number
IsNextRevision s plan phase None (Some v) pending number = IsAmended s plan phase v pending number
IsNextRevision s plan phase None None pending number = ⊥

-- The holder amends a release that hasn't ended. The active revision, signed by both, stays until a captain concurs
-- again.
pub record IsAmending (s : State) (actor : List ℕ) (plan : Plan) (number : ℕ) (q r : Release) : Type 0 where
  pub own : q.holder ≡ actor
  pub once : HasNotEnded q.phase
  pub same : IsSameRelease q r
  pub phase : r.phase ≡ q.phase
  pub active : r.active ≡ q.active
  pub pending : IsNextRevision s plan q.phase q.pending q.active r.pending number

-- The leg is the next to depart: leg 1 of a release that is ready, or the leg before which the flight has stopped.
abbrev pub IsNextLeg : Phase → ℕ → Type 0
IsNextLeg Drafted leg = ⊥
IsNextLeg Ready leg = leg ≡ 1
IsNextLeg (Flying in_flight) leg = ⊥
IsNextLeg (Stopped next since again) leg = leg ≡ next
IsNextLeg (Completed at) leg = ⊥
IsNextLeg (Cancelled at) leg = ⊥

abbrev pub IsCaptainOf : List ℕ → Option Revision → Type 0
IsCaptainOf actor None = ⊥
IsCaptainOf actor (Some v) = v.plan.captain ≡ actor

-- The person may report the legs of a release. A captain may if the active plan names him, and anyone else if he
-- holds the release.
abbrev pub FliesAs : Role → List ℕ → Release → Type 0
FliesAs D actor q = q.holder ≡ actor
FliesAs C actor q = IsCaptainOf actor q.active
FliesAs F actor q = q.holder ≡ actor
FliesAs M actor q = q.holder ≡ actor
FliesAs S actor q = q.holder ≡ actor

abbrev pub FliesBy : Option Actor → List ℕ → Release → Type 0
FliesBy None actor q = q.holder ≡ actor
FliesBy (Some person) actor q = FliesAs person.role actor q

-- A leg of a release departs, and the active plan fails no rule. Any pending amendment is discarded.
pub record IsDeparting (s : State) (actor : List ℕ) (leg : ℕ) (q r : Release) : Type 0 where
  pub own : FliesBy (actor_of s.tables actor) actor q
  pub next : IsNextLeg q.phase leg
  pub passes : failing_of (grounds_of s) q ≡ Some []
  pub same : IsSameRelease q r
  pub phase : r.phase ≡ Flying leg
  pub active : r.active ≡ q.active
  pub pending : r.pending ≡ None

-- The leg in flight arrives. Any pending amendment is discarded.
pub record IsArriving (s : State) (actor : List ℕ) (leg : ℕ) (q r : Release) : Type 0 where
  pub own : FliesBy (actor_of s.tables actor) actor q
  pub flying : q.phase ≡ Flying leg
  pub same : IsSameRelease q r
  pub active : r.active ≡ q.active
  pub pending : r.pending ≡ None

-- the active plan has a leg after this one
abbrev pub HasMore : Option Revision → ℕ → Type 0
HasMore None leg = ⊥
HasMore (Some v) leg = leg < length v.plan.legs

-- the active plan has no leg after this one
abbrev pub HasNoMore : Option Revision → ℕ → Type 0
HasNoMore None leg = Unit {0}
HasNoMore (Some v) leg = length v.plan.legs ≤ leg

-- a leg arrives, and another one remains
pub record IsStopping (s : State) (actor : List ℕ) (leg : ℕ) (q r : Release) : Type 0 where
  pub arrives : IsArriving s actor leg q r
  pub more : HasMore q.active leg
  pub phase : r.phase ≡ Stopped (leg + 1) s.moment false

-- the last leg arrives
pub record IsCompleting (s : State) (actor : List ℕ) (leg : ℕ) (q r : Release) : Type 0 where
  pub arrives : IsArriving s actor leg q r
  pub last : HasNoMore q.active leg
  pub phase : r.phase ≡ Completed s.moment

-- there is an alert with this version
abbrev pub IsInVersion : ℕ → Option Alert → Type 0
IsInVersion version None = ⊥
IsInVersion version (Some a) = a.version ≡ version

-- the holder of a release acknowledges its alert in this version
pub record IsAcknowledging (s : State) (actor : List ℕ) (version : ℕ) (q : Release) : Type 0 where
  pub own : q.holder ≡ actor
  pub seen : IsInVersion version (alert_at q.id s.alerts)

-- a release ended at this moment
abbrev pub HasEndedAt : Phase → ℕ → Type 0
HasEndedAt phase at = (phase ≡ Completed at) ⊎ (phase ≡ Cancelled at)

-- a release has ended, and its retention time has passed
pub record IsPurging (s : State) (q : Release) : Type 0 where
  pub at : ℕ
  pub ended : HasEndedAt q.phase at
  pub passed : kept_until at ≤ s.moment

-- A sweep whose cut-off is at least three days (4,320 minutes) ago. The state alone determines which reports stay
-- because a release has them attached. It also determines how far the floors of persons rise.
pub record IsSweeping (s : State) (before : ℕ) (staying : List ℕ) (raised : List Floor) : Type 0 where
  pub passed : before + 4320 ≤ s.moment
  pub attached : staying ≡ attached_reports s
  pub floors : raised ≡ raised_by (kept_before before s.kept) s.floors

-- a new report of an airport, received now: the canonical form of a text, and the reading of that text
pub record IsReceived (s : State) (text : List ℕ) (report : Report) : Type 0 where
  pub is_new : report.id ≡ s.counters.next_report
  pub received : report.received ≡ s.moment
  pub canonical : report.text ≡ canonical (groups_of text)
  pub reading : read_of text s.moment ≡ Ok report.read
  pub airport : has_airport s.tables (station_of_report report) ≡ true
  pub few : length s.reports < 200_000

-- the minimum equipment list of a type has the item
abbrev pub IsListed : TableRows → Option TypeRow → List ℕ → Type 0
IsListed tables None item = ⊥
IsListed tables (Some kind) item = has_item tables kind.kind item ≡ true

-- a new deferral of a listed item of the aircraft's type, found no later than now
pub record IsDeferred (s : State) (tail item : List ℕ) (found : ℕ) (d : Deferral) : Type 0 where
  pub listed : IsListed s.tables (type_of s.tables tail) item
  pub by_now : found ≤ s.moment
  pub few : length s.deferrals < 50_000
  pub is_new : d.id ≡ s.counters.next_deferral
  pub aircraft : d.tail ≡ tail
  pub deferred : d.item ≡ item
  pub since : d.found ≡ found

-- the release is stored, and a relation holds between it and its replacement
abbrev pub OfHeld : (Release → Release → Type 0) → Option Release → Release → Type 0
OfHeld R None r = ⊥
OfHeld R (Some q) r = R q r

-- Everything that an ask of a person may change, with its reply. Asks that aren't listed here change nothing. No ask
-- changes a holder, and only a concurrence makes a revision active. Only a concurrence, a cancellation and the
-- arrival of the last leg remove an alert. An amendment doesn't, nor does an acknowledgement.
pub data IsEffectOf (s : State) (actor : List ℕ) : Ask → Effect → DoneType → Type 0 where
  admits : {text : List ℕ} {report : Report} → IsReceived s text report → IsEffectOf s actor (ask.Admit text) (effect.admit report) (done.Report report.id)
  defers : {tail item : List ℕ} {found : ℕ} {d : Deferral} → IsDeferred s tail item found d → IsEffectOf s actor (ask.Defer tail item found) (effect.defer d) (done.Deferral d.id)
  clears : {id : ℕ} → list_any (has_id id) s.deferrals ≡ true → IsEffectOf s actor (ask.Clear id) (effect.clear id) (done.Deferral id)
  drafts : {plan : Plan} {r : Release} → IsDrafted s actor plan r → IsEffectOf s actor (ask.Draft plan) (effect.file r) (done.Filed r.id 1)
  prepares : {id : ℕ} {r : Release} {w : Revision} → OfHeld (IsPreparing s actor) (release_at id s.releases) r → r.pending ≡ Some w
      → IsEffectOf s actor (ask.Prepare id) (effect.put r) (done.Prepared r.id w.number (revision_digest w))
  signs : {id number : ℕ} {digest : List ℕ} {r : Release} → OfHeld (IsSigning s actor number digest) (release_at id s.releases) r
      → IsEffectOf s actor (ask.Sign id number digest) (effect.put r) (done.Filed r.id number)
  concurs : {id number : ℕ} {digest : List ℕ} {r : Release} → OfHeld (IsConcurring s actor number digest) (release_at id s.releases) r
      → IsEffectOf s actor (ask.Concur id number digest) (effect.put_afresh r) (done.Filed r.id number)
  amends : {id number : ℕ} {plan : Plan} {r : Release} → OfHeld (IsAmending s actor plan number) (release_at id s.releases) r
      → IsEffectOf s actor (ask.Amend id plan) (effect.put r) (done.Filed r.id number)
  cancels : {id : ℕ} {r : Release} → OfHeld (IsCancelling s actor) (release_at id s.releases) r → IsEffectOf s actor (ask.Cancel id) (effect.put_afresh r) (done.Release r.id)
  departs : {id leg : ℕ} {r : Release} → OfHeld (IsDeparting s actor leg) (release_at id s.releases) r → IsEffectOf s actor (ask.Depart id leg) (effect.put r) (done.Release r.id)
  stops : {id leg : ℕ} {r : Release} → OfHeld (IsStopping s actor leg) (release_at id s.releases) r → IsEffectOf s actor (ask.Arrive id leg) (effect.put r) (done.Release r.id)
  completes : {id leg : ℕ} {r : Release} → OfHeld (IsCompleting s actor leg) (release_at id s.releases) r
      → IsEffectOf s actor (ask.Arrive id leg) (effect.put_afresh r) (done.Release r.id)
  acknowledges : {id version : ℕ} {q : Release} → release_at id s.releases ≡ Some q → IsAcknowledging s actor version q
      → IsEffectOf s actor (ask.Acknowledge id version) (effect.acknowledge q.id) (done.Release q.id)
  sweeps : {before : ℕ} {attached : List ℕ} {floors : List Floor} → IsSweeping s before attached floors
      → IsEffectOf s actor (ask.Sweep before) (effect.sweep before attached floors) (done.Swept (length (reports_before s before)) (length (kept_before before s.kept)))
  purges : {id : ℕ} {q : Release} → release_at id s.releases ≡ Some q → IsPurging s q → IsEffectOf s actor (ask.Purge id) (effect.remove q.id) (done.Release q.id)

-- an ask that only shows something
abbrev pub IsView : Ask → Type 0
IsView (ask.Admit text) = ⊥
IsView (ask.Defer tail item found) = ⊥
IsView (ask.Clear deferral) = ⊥
IsView (ask.Draft plan) = ⊥
IsView (ask.Prepare release) = ⊥
IsView (ask.Sign release revision digest) = ⊥
IsView (ask.Concur release revision digest) = ⊥
IsView (ask.Amend release plan) = ⊥
IsView (ask.Cancel release) = ⊥
IsView (ask.Depart release leg) = ⊥
IsView (ask.Arrive release leg) = ⊥
IsView (ask.Acknowledge release version) = ⊥
IsView (ask.Purge release) = ⊥
IsView (ask.Sweep before) = ⊥
IsView ask.ViewBoard = Unit {0}
IsView ask.ViewAlerts = Unit {0}
IsView (ask.ViewRelease release) = Unit {0}
IsView (ask.ViewWeather station) = Unit {0}
IsView (ask.ViewDeferred tail) = Unit {0}

-- a report with this id and this text
abbrev pub has_text : ℕ → List ℕ → Report → Bool
has_text id text r = (r.id == id) && bytes_eq r.text text

-- an admit ask whose text is stored already is answered with the id of that report
abbrev pub IsHeldReport : State → DoneType → Ask → Type 0
IsHeldReport s (done.Report id) (ask.Admit text) = list_any (has_text id (canonical (groups_of text))) s.reports ≡ true
IsHeldReport s _ _ = ⊥

-- the replies that an ask may get without a change: a refusal, a view, or the id of a stored report
abbrev pub IsShownTo : State → Ask → Reply → Type 0
IsShownTo s a (Refused refusal) = Unit {0}
IsShownTo s a (Seen text) = IsView a
IsShownTo s a (Done made) = IsHeldReport s made a

-- a call is a repeat: the same person made the same ask under the same number, and its reply is kept
pub record IsRepeat (s : State) (call : Call) (made : DoneType) : Type 0 where
  pub reply : KeptReply
  pub kept : kept_at call.actor call.number s.kept ≡ Some reply
  pub same : reply.digest ≡ ask_digest call.ask
  pub done : made ≡ reply.done

-- the replies that a call may get without a change: those of its ask, or the kept reply to the same call
abbrev pub IsAnswer : State → Call → Reply → Type 0
IsAnswer s call (Refused refusal) = Unit {0}
IsAnswer s call (Seen text) = IsView call.ask
IsAnswer s call (Done made) = IsHeldReport s made call.ask ⊎ IsRepeat s call made

-- the name and the key of a call are right, and its person's role permits the ask
pub record IsPermitted (s : State) (call : Call) : Type 0 where
  pub person : Actor
  pub known : actor_of s.tables call.actor ≡ Some person
  pub key : person.key ≡ call.key
  pub role : may_ask call.ask person.role ≡ true

-- Anyone may be refused. Other replies go only to persons whom the desk permits the ask.
abbrev pub IsSaidTo : State → Call → Reply → Type 0
IsSaidTo s call (Refused refusal) = Unit {0}
IsSaidTo s call (Seen text) = IsPermitted s call
IsSaidTo s call (Done made) = IsPermitted s call

abbrev pub Stays : State → Call → Option Reply → Type 0
Stays s call None = ⊥
Stays s call (Some reply) = IsAnswer s call reply × IsSaidTo s call reply

-- the allowed decisions on an ask
abbrev pub AskedOf : State → List ℕ → Ask → Result Decision Refusal → Type 0
AskedOf s actor a (Err refusal) = Unit {0}
AskedOf s actor a (Ok (Show reply)) = IsShownTo s a reply
AskedOf s actor a (Ok (Do made effect)) = IsEffectOf s actor a effect made

-- no reply is kept for the person and the number, and the number is above his floor
pub record IsUnused (s : State) (call : Call) : Type 0 where
  pub none : kept_at call.actor call.number s.kept ≡ None
  pub above : IfSome (floor_at call.actor s.floors) (λ floor. floor < call.number)

-- the allowed decisions on a call
abbrev pub DecisionOf : State → Call → Result Decision Refusal → Type 0
DecisionOf s call (Err refusal) = Unit {0}
DecisionOf s call (Ok (Show reply)) = IsAnswer s call reply
DecisionOf s call (Ok (Do made effect)) = IsUnused s call × IsEffectOf s call.actor call.ask effect made

-- the same call without its key, which the history doesn't keep
pub record IsWithoutKey (call kept : Call) : Type 0 where
  pub actor : kept.actor ≡ call.actor
  pub key : kept.key ≡ []
  pub number : kept.number ≡ call.number
  pub asked : kept.ask ≡ call.ask

abbrev pub IsAsked : Call → Reply → What → Type 0
IsAsked call told (what.Tick to) = ⊥
IsAsked call told (what.Asked kept reply) = IsWithoutKey call kept × (reply ≡ told)

-- an entry of a lane that records a call and its reply
pub record IsEntryOf (lane : ℕ) (call : Call) (told : Reply) (e : Entry) : Type 0 where
  pub its_lane : e.lane ≡ lane
  pub its_call : IsAsked call told e.what

-- the alert of a release once acknowledged
abbrev pub IsAcknowledged : Option Alert → Option Alert → Type 0
IsAcknowledged None left = left ≡ None
IsAcknowledged (Some a) left = left ≡ Some (record a { acknowledged = true })

-- the effect of an event on the alert of a release: removed, acknowledged, or left alone
abbrev pub LeavesAlert : OnAlerts → ℕ → Option Alert → Option Alert → Type 0
LeavesAlert on_alerts.Nothing id before left = left ≡ before
LeavesAlert (on_alerts.Take gone) id before left = (id ≡ gone → left ≡ None) × (id ≢ gone → left ≡ before)
LeavesAlert (on_alerts.Acknowledge seen) id before left = (id ≡ seen → IsAcknowledged before left) × (id ≢ seen → left ≡ before)

-- an inactive release has no alert; an active one has the alert that follows from the one left and the rules that
-- fail
abbrev pub FollowsIf : Option (List Finding) → Option Alert → Release → ℕ → Option Alert → Type 0
FollowsIf None left r moment after = after ≡ None
FollowsIf (Some findings) left r moment after = Follows left r.id r.holder findings moment after

-- the alert of a release after an event
pub record IsAlertAfter (effect : Effect) (s t : State) (r : Release) : Type 0 where
  pub left : Option Alert
  pub is_left : LeavesAlert effect.on_alerts r.id (alert_at r.id s.alerts) left
  pub follows : FollowsIf (failing_of (grounds_of t) r) left r t.moment (alert_at r.id t.alerts)

-- the state after an event: only what its effect names has changed, and alerts follow from the judgement
pub record IsAfter (effect : Effect) (e : Entry) (s t : State) : Type 0 where
  pub judged : t ≡ entered e (effected effect s)
  pub tables : t.tables ≡ s.tables
  pub moment : t.moment ≡ moment_after effect.moment s.moment
  pub reports : t.reports ≡ reports_swept effect.sweep (reports_after effect.report s.reports)
  pub deferrals : t.deferrals ≡ deferrals_after effect.on_deferrals s.deferrals
  pub releases : t.releases ≡ releases_after effect.on_releases s.releases
  pub alerts : AllByRecursion (IsAlertAfter effect s t) t.releases
  pub floors : t.floors ≡ floors_after effect.sweep s.floors
  pub entries : t.entries ≡ s.entries ++ e ∷ []
  pub events : t.counters.events ≡ s.counters.events + 1

-- kept replies stay, except those that a sweep removes, and the reply to this call is appended
pub record IsKeptOf (s t : State) (call : Call) (does : Effect) (made : DoneType) : Type 0 where
  pub unused : IsUnused s call
  pub kept : t.kept ≡ kept_after does.sweep s.kept ++ kept_reply (effected does s) call made ∷ []

-- What a call may lead to. Either nothing changes, and the call gets a reply that needs no change. Or the call is
-- permitted and unused, and changes what its ask may change. Then every active release is judged, the entry of the
-- call is appended, and its reply is kept.
abbrev pub MayLeadTo : ℕ → Call → State → State → Option Reply → Type 0
MayLeadTo lane call s t reply =
    ((t ≡ s) × Stays s call reply)
    ⊎ (IsPermitted s call × (does : Effect) × (made : DoneType) × IsEffectOf s call.actor call.ask does made × (reply ≡ Some (Done made))
    × (e : Entry) × IsEntryOf lane call (Done made) e × IsKeptOf s t call does made × IsAfter does e s t)

-- no further event may come: there are 400,000 entries, or 999,999,999,999,000 events have happened
abbrev pub IsFull : State → Type 0
IsFull s = (400_000 ≤ length s.entries) ⊎ (999_999_999_999_000 ≤ s.counters.events)

-- What a tick may lead to. If no further event may come, the tick is refused and nothing changes. Otherwise the
-- moment moves forward, every active release is judged, and the entry of the tick is appended.
abbrev pub MayTickTo : ℕ → ℕ → State → State → Option Reply → Type 0
MayTickTo lane to s t reply =
    ((t ≡ s) × IsFull s × (reply ≡ Some (full_reply s)))
    ⊎ ((reply ≡ None) × (e : Entry) × (e.lane ≡ lane) × (e.what ≡ what.Tick to) × (t.kept ≡ s.kept) × IsAfter (effect.tick to) e s t)

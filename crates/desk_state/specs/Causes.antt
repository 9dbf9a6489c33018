-- The cause of each refusal of a call, and who may be told of it.
use Rattle.std.specs.Prelude.{◌≡◌, ◌≢◌, ◌⊎◌, ℕ, ◌+◌, ◌*◌, ◌/◌, ◌<◌, ◌≤◌, false, List, [], length, Option, None, Some, Ok, Err}
use Rattle.std.specs.List.{list_any}
use Rattle.desk_time.specs.Calendar.{civil_of, AreThreeMonths}
use Rattle.desk_io.specs.Station.{Station}
use Rattle.codes.specs.declared.fault.Why.{Why}
use Rattle.codes.specs.declared.fault.Why.TheVariants as why
use Rattle.ops_tables.specs.Tables.{actor_of, type_of, has_airport, has_item}
use Rattle.ops_tables.specs.Rows.{Actor}
use Rattle.ops_tables.specs.declared.rows.TypeRow.{TypeRow}
use Rattle.deferrals.specs.Held.{has_id}
use Rattle.facts.specs.Reading.{read_of}
use Rattle.facts.specs.Same.{station_of_read}
use Rattle.facts.specs.declared.report.Read.{Read}
use Rattle.plan.specs.Change.{change_fault}
use Rattle.plan.specs.Check.{plan_fault}
use Rattle.plan.specs.declared.check.BadPlan.{BadPlan}
use Rattle.plan.specs.declared.findings.Finding.{Finding}
use Rattle.plan.specs.declared.flights.Plan.{Plan}
use Rattle.plan.specs.declared.release.Phase.{Phase}
use Rattle.plan.specs.declared.release.Phase.TheVariants.{Flying}
use Rattle.plan.specs.declared.release.Release.{Release}
use Rattle.plan.specs.declared.release.Revision.{Revision}
use Rattle.release_text.specs.Revisions.{revision_digest}
use Rattle.release_text.specs.Weather.{newer_than}
use Rattle.release_index.specs.Below.{findings_of}
use Rattle.alerts.specs.declared.alert.Alert.{Alert}
use Rattle.asks.specs.declared.call.Ask.{Ask}
use Rattle.asks.specs.declared.call.Ask.TheVariants as ask
use Rattle.asks.specs.declared.call.Call.{Call}
use Rattle.asks.specs.declared.kept.KeptReply.{KeptReply}
use Rattle.asks.specs.declared.reply.Refusal.{Refusal}
use Rattle.asks.specs.declared.reply.Refusal.TheVariants as refusal
use Rattle.asks.specs.declared.reply.Reply.{Reply}
use Rattle.asks.specs.declared.reply.Reply.TheVariants.{Refused}
use Rattle.asks.specs.Canonical.{ask_digest}
use Rattle.desk_state.specs.State.{State, grounds_of, failing_of, release_at, alert_at, is_sweep}
use Rattle.desk_state.specs.Requests.{kept_at, floor_at}
use Rattle.desk_state.specs.People.{may_ask}
use Rattle.desk_state.specs.Texts.{newest}
use Rattle.desk_state.specs.Decide.{is_view, once_signed}
use Rattle.desk_state.specs.Allowed.{HasNotEnded, IsNextLeg, IsCaptainOf, FliesBy, HasEndedAt, IsPermitted, IsFull}

-- a property of the person whom a call names
abbrev pub OfPerson : State → Call → (Actor → Type 0) → Type 0
OfPerson s call P = (person : Actor) × (actor_of s.tables call.actor ≡ Some person) × P person

-- The desk can't read the text of a report at its moment: the group at fault, and the reason.
abbrev pub IsUnread : State → Ask → ℕ → Why → Type 0
IsUnread s a group reason = (text : List ℕ) × (a ≡ ask.Admit text) × (read_of text s.moment ≡ Err (record { group = group; why = reason }))

-- the station of the report to admit, or of the weather to view
abbrev pub IsOfStation : State → Ask → Station → Type 0
IsOfStation s (ask.Admit text) station = (read : Read) × (read_of text s.moment ≡ Ok read) × (station_of_read read ≡ station)
IsOfStation s (ask.ViewWeather named) station = named ≡ station
IsOfStation s _ station = ⊥

-- the aircraft that an ask names
abbrev pub IsOfTail : Ask → List ℕ → Type 0
IsOfTail a tail = ((item : List ℕ) × (found : ℕ) × (a ≡ ask.Defer tail item found)) ⊎ (a ≡ ask.ViewDeferred tail)

-- the release that an ask names
abbrev pub release_named : Ask → Option ℕ
release_named (ask.Prepare id) = Some id
release_named (ask.Sign id number digest) = Some id
release_named (ask.Concur id number digest) = Some id
release_named (ask.Amend id plan) = Some id
release_named (ask.Cancel id) = Some id
release_named (ask.Depart id leg) = Some id
release_named (ask.Arrive id leg) = Some id
release_named (ask.Acknowledge id version) = Some id
release_named (ask.Purge id) = Some id
release_named (ask.ViewRelease id) = Some id
release_named _ = None

-- a property of the stored release that an ask names
abbrev pub OfRelease : State → Ask → (Release → Type 0) → Type 0
OfRelease s a P = (id : ℕ) × (release_named a ≡ Some id) × (q : Release) × (release_at id s.releases ≡ Some q) × P q

-- the ask is a signature by the dispatcher or the captain, under this number and this digest
abbrev pub Signs : Ask → ℕ → List ℕ → Type 0
Signs (ask.Sign id asked named) number digest = (number ≡ asked) × (digest ≡ named)
Signs (ask.Concur id asked named) number digest = (number ≡ asked) × (digest ≡ named)
Signs _ number digest = ⊥

-- a property of the pending revision that an ask signs, with the number and the digest that the ask gives
abbrev pub OfSigned : State → Ask → (ℕ → List ℕ → Release → Revision → Type 0) → Type 0
OfSigned s a P = (number : ℕ) × (digest : List ℕ) × Signs a number digest × OfRelease s a (λ q. (v : Revision) × (q.pending ≡ Some v) × P number digest q v)

-- The person who must make an ask about a release. Only the holder may prepare, sign, amend, cancel and acknowledge.
-- Only the captain of the pending plan may concur. Only the person who may report legs may report a departure or an
-- arrival.
abbrev pub IsFor : State → List ℕ → Ask → Release → List ℕ → Type 0
IsFor s actor (ask.Prepare id) q person = q.holder ≡ person
IsFor s actor (ask.Sign id number digest) q person = q.holder ≡ person
IsFor s actor (ask.Concur id number digest) q person = IsCaptainOf person q.pending
IsFor s actor (ask.Amend id plan) q person = q.holder ≡ person
IsFor s actor (ask.Cancel id) q person = q.holder ≡ person
IsFor s actor (ask.Depart id leg) q person = FliesBy (actor_of s.tables actor) person q
IsFor s actor (ask.Arrive id leg) q person = FliesBy (actor_of s.tables actor) person q
IsFor s actor (ask.Acknowledge id version) q person = q.holder ≡ person
IsFor s actor _ q person = ⊥

-- the fault of a plan: it fails a test, or it may not replace the plan of the newest revision
abbrev pub IsPlanFault : State → Ask → BadPlan → Type 0
IsPlanFault s (ask.Draft plan) bad = plan_fault s.tables plan ≡ Some bad
IsPlanFault s (ask.Amend id plan) bad =
    (plan_fault s.tables plan ≡ Some bad)
    ⊎ OfRelease s (ask.Amend id plan) (λ q. (v : Revision) × (newest q.pending q.active ≡ Some v) × (change_fault plan v.plan q.phase ≡ Some bad))
IsPlanFault s _ bad = ⊥

-- The stage that a pending revision must have reached. To prepare it, there must be one; to sign, it must be
-- prepared; to concur, the dispatcher must have signed.
abbrev pub stage_needed : Ask → ℕ
stage_needed (ask.Prepare id) = 1
stage_needed (ask.Sign id number digest) = 2
stage_needed (ask.Concur id number digest) = 3
stage_needed _ = 0

-- how far a pending revision has come: 0 if there is none, 1 if it isn't prepared, 2 if the dispatcher hasn't signed
abbrev pub IsAtStage : ℕ → Option Revision → Type 0
IsAtStage stage None = stage ≡ 0
IsAtStage stage (Some v) = ((stage ≡ 1) × (v.prepared ≡ false)) ⊎ ((stage ≡ 2) × (v.dispatcher ≡ None))

-- The rules that fail. A signature is judged on the pending revision, as if both had signed, and a departure on the
-- active one.
abbrev pub AreFailing : State → Ask → List Finding → Type 0
AreFailing s a findings =
    OfSigned s a (λ number digest q v. findings_of v.plan (once_signed q.phase) (grounds_of s) ≡ findings)
    ⊎ ((id : ℕ) × (leg : ℕ) × (a ≡ ask.Depart id leg) × OfRelease s a (λ q. failing_of (grounds_of s) q ≡ Some findings))

-- a phase allows an ask
abbrev pub Allows : Phase → Ask → Type 0
Allows phase (ask.Amend id plan) = HasNotEnded phase
Allows phase (ask.Cancel id) = HasNotEnded phase
Allows phase (ask.Depart id leg) = IsNextLeg phase leg
Allows phase (ask.Arrive id leg) = phase ≡ Flying leg
Allows phase (ask.Purge id) = (at : ℕ) × HasEndedAt phase at
Allows phase _ = Unit {0}

-- An ended release is kept until the end of the day three months after the day on which it ended (14 CFR 121.695).
pub record IsKeptUntil (ended until : ℕ) : Type 0 where
  pub last : ℕ
  pub months : AreThreeMonths (civil_of (ended / 1440)) (civil_of last)
  pub end : until ≡ 1440 * (last + 1)

-- the moment from which the desk allows a removal: three days after a sweep's cut-off, or the end of a release's
-- retention
abbrev pub MayGoFrom : State → Ask → ℕ → Type 0
MayGoFrom s (ask.Sweep before) until = until ≡ before + 4320
MayGoFrom s (ask.Purge id) until = OfRelease s (ask.Purge id) (λ q. (at : ℕ) × HasEndedAt q.phase at × IsKeptUntil at until)
MayGoFrom s _ until = ⊥

-- The cause of each refusal of a call. The board doesn't store rows, so it never refuses a call as unkept.
abbrev pub IsRefusedFor : State → Call → Refusal → Type 0
IsRefusedFor s call refusal.UnknownActor = actor_of s.tables call.actor ≡ None
IsRefusedFor s call refusal.WrongKey = OfPerson s call (λ person. person.key ≢ call.key)
IsRefusedFor s call refusal.NotYourRole = OfPerson s call (λ person. (person.key ≡ call.key) × (may_ask call.ask person.role ≡ false))
IsRefusedFor s call (refusal.NumberReused id) =
    (is_view call.ask ≡ false) × (reply : KeptReply) × (kept_at call.actor call.number s.kept ≡ Some reply) × (reply.digest ≢ ask_digest call.ask) × (reply.id ≡ id)
IsRefusedFor s call (refusal.BadReport group reason) = (reason ≢ why.DayOutOfReach) × IsUnread s call.ask group reason
IsRefusedFor s call (refusal.DayOutOfReach group) = IsUnread s call.ask group why.DayOutOfReach
IsRefusedFor s call (refusal.ReportsFull held) = (text : List ℕ) × (call.ask ≡ ask.Admit text) × (held ≡ length s.reports) × (200_000 ≤ held)
IsRefusedFor s call refusal.UnknownTail = (tail : List ℕ) × IsOfTail call.ask tail × (type_of s.tables tail ≡ None)
IsRefusedFor s call refusal.NoSuchDeferral = (id : ℕ) × (call.ask ≡ ask.Clear id) × (list_any (has_id id) s.deferrals ≡ false)
IsRefusedFor s call refusal.NoSuchRelease = (id : ℕ) × (release_named call.ask ≡ Some id) × (release_at id s.releases ≡ None)
IsRefusedFor s call (refusal.NotYours person) = (person ≢ call.actor) × OfRelease s call.ask (λ q. IsFor s call.actor call.ask q person)
IsRefusedFor s call (refusal.BadPlan leg reason) = IsPlanFault s call.ask (record { leg = leg; why = reason })
IsRefusedFor s call (refusal.NotPending stage) = (stage < stage_needed call.ask) × OfRelease s call.ask (λ q. IsAtStage stage q.pending)
IsRefusedFor s call (refusal.WrongRevision current) = OfSigned s call.ask (λ number digest q v. (v.number ≡ current) × (current ≢ number))
IsRefusedFor s call (refusal.WrongText own) = OfSigned s call.ask (λ number digest q v. (revision_digest v ≡ own) × (own ≢ digest))
IsRefusedFor s call (refusal.WeatherNewer report) = OfSigned s call.ask (λ number digest q v. newer_than s.reports v.plan q.phase v.attached ≡ Some report)
IsRefusedFor s call (refusal.RuleFails findings) = (findings ≢ []) × AreFailing s call.ask findings
IsRefusedFor s call (refusal.WrongPhase phase) = OfRelease s call.ask (λ q. q.phase ≡ phase) × (Allows phase call.ask → ⊥)
IsRefusedFor s call refusal.AlreadySigned = (stage_needed call.ask ≡ 2) × OfSigned s call.ask (λ number digest q v. v.dispatcher ≢ None)
IsRefusedFor s call refusal.NoSuchAlert =
    (id : ℕ) × (version : ℕ) × (call.ask ≡ ask.Acknowledge id version) × OfRelease s call.ask (λ q. alert_at q.id s.alerts ≡ None)
IsRefusedFor s call (refusal.AlertMoved version) =
    (id : ℕ) × (seen : ℕ) × (call.ask ≡ ask.Acknowledge id seen) × (version ≢ seen)
    × OfRelease s call.ask (λ q. (a : Alert) × (alert_at q.id s.alerts ≡ Some a) × (a.version ≡ version))
IsRefusedFor s call (refusal.TooYoung until) = (s.moment < until) × MayGoFrom s call.ask until
IsRefusedFor s call (refusal.ReleasesFull held) = (plan : Plan) × (call.ask ≡ ask.Draft plan) × (held ≡ length s.releases) × (20_000 ≤ held)
IsRefusedFor s call (refusal.HistoryFull entries kept events) =
    (is_view call.ask ≡ false) × (entries ≡ length s.entries) × (kept ≡ length s.kept) × (events ≡ s.counters.events)
    × (IsFull s ⊎ ((400_000 ≤ kept) × (is_sweep call.ask ≡ false)))
IsRefusedFor s call refusal.NoSuchStation = (station : Station) × IsOfStation s call.ask station × (has_airport s.tables station ≡ false)
IsRefusedFor s call (refusal.Unkept faults) = ⊥
IsRefusedFor s call (refusal.NumberSwept floor) = (is_view call.ask ≡ false) × (floor_at call.actor s.floors ≡ Some floor) × (call.number ≤ floor)
IsRefusedFor s call refusal.UnknownItem =
    (tail : List ℕ) × (item : List ℕ) × (found : ℕ) × (call.ask ≡ ask.Defer tail item found)
    × (kind : TypeRow) × (type_of s.tables tail ≡ Some kind) × (has_item s.tables kind.kind item ≡ false)
IsRefusedFor s call (refusal.BadFound moment) =
    (tail : List ℕ) × (item : List ℕ) × (found : ℕ) × (call.ask ≡ ask.Defer tail item found) × (moment ≡ s.moment) × (moment < found)
IsRefusedFor s call (refusal.DeferralsFull held) =
    (tail : List ℕ) × (item : List ℕ) × (found : ℕ) × (call.ask ≡ ask.Defer tail item found) × (held ≡ length s.deferrals) × (50_000 ≤ held)

-- A person who isn't permitted the ask learns only one of three causes: unknown name, wrong key, or wrong role.
abbrev pub MayBeTold : State → Call → Refusal → Type 0
MayBeTold s call why = IsPermitted s call ⊎ (why ≡ refusal.UnknownActor) ⊎ (why ≡ refusal.WrongKey) ⊎ (why ≡ refusal.NotYourRole)

-- if a reply is a refusal, its cause holds, and the caller may be told of it
unfoldable pub RefusesFor : State → Call → Option Reply → Type 0
RefusesFor s call reply = (why : Refusal) → reply ≡ Some (Refused why) → IsRefusedFor s call why × MayBeTold s call why

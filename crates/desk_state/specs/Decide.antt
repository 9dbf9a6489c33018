-- The decision on a call, ask by ask: the tests in their order, and what follows them.
use Rattle.std.specs.Prelude.{ℕ, ◌+◌, ◌*◌, ◌/◌, ◌==◌, nat_le, nat_lt, Bool, true, false, not, ◌||◌, if◌then◌else◌, is_none, List, [], ◌∷◌, filter, length, map, Option, None, Some, Result, Ok, Err}
use Rattle.std.specs.Str.{bytes_eq}
use Rattle.std.specs.List.{list_any}
use Rattle.desk_time.specs.Calendar.{three_months}
use Rattle.codes.specs.Groups.{groups_of, canonical}
use Rattle.desk_io.specs.Station.{Station}
use Rattle.codes.specs.declared.fault.BadReport.{BadReport}
use Rattle.codes.specs.declared.fault.Why.{Why}
use Rattle.codes.specs.declared.fault.Why.TheVariants as why
use Rattle.ops_tables.specs.Tables.{has_airport, type_of, item_of, actor_of, is_captain_role}
use Rattle.ops_tables.specs.Rows.{Actor}
use Rattle.ops_tables.specs.declared.rows.TypeRow.{TypeRow}
use Rattle.alerts.specs.declared.alert.Alert.{Alert}
use Rattle.deferrals.specs.Held.{has_id}
use Rattle.deferrals.specs.Limits.{open_on}
use Rattle.facts.specs.Same.{same_id, minute_of_read, station_of_read}
use Rattle.facts.specs.Reading.{read_of}
use Rattle.facts.specs.declared.report.Read.{Read}
use Rattle.facts.specs.declared.report.Report.{Report}
use Rattle.facts.specs.Lines.{weather_at}
use Rattle.facts.specs.Swept.{leaving}
use Rattle.asks.specs.declared.kept.KeptReply.{KeptReply}
use Rattle.asks.specs.Canonical.{ask_digest}
use Rattle.plan.specs.Change.{change_fault}
use Rattle.plan.specs.Check.{plan_fault}
use Rattle.plan.specs.declared.check.BadPlan.{BadPlan}
use Rattle.plan.specs.declared.flights.Plan.{Plan}
use Rattle.plan.specs.declared.findings.Finding.{Finding}
use Rattle.plan.specs.declared.release.Phase.{Phase}
use Rattle.plan.specs.declared.release.Phase.TheVariants.{Drafted, Ready, Flying, Stopped, Completed, Cancelled}
use Rattle.plan.specs.Phases.{is_flying}
use Rattle.plan.specs.declared.release.Release.{Release}
use Rattle.plan.specs.declared.release.Revision.{Revision}
use Rattle.plan.specs.declared.release.Signature.{Signature}
use Rattle.asks.specs.declared.call.Ask.{Ask}
use Rattle.asks.specs.declared.call.Ask.TheVariants as ask
use Rattle.asks.specs.declared.call.Call.{Call}
use Rattle.asks.specs.declared.reply.Done.TheVariants as done
use Rattle.asks.specs.declared.reply.Refusal.{Refusal}
use Rattle.asks.specs.declared.reply.Refusal.TheVariants as refusal
use Rattle.asks.specs.declared.reply.Reply.TheVariants.{Done, Seen}
use Rattle.release_text.specs.Revisions.{revision_digest}
use Rattle.release_text.specs.Weather.{attached_to, newer_than}
use Rattle.release_index.specs.Below.{findings_of}
use Rattle.desk_state.specs.Hours.{captain_hours}
use Rattle.desk_state.specs.declared.effect.Decision.{Decision}
use Rattle.desk_state.specs.declared.effect.Decision.TheVariants.{Show, Do}
use Rattle.desk_state.specs.Effects as effect
use Rattle.desk_state.specs.State.{State, grounds_of, failing_of, release_at, alert_at}
use Rattle.desk_state.specs.Chain.{◌>>-◌, unless, some_or, refused_if}
use Rattle.desk_state.specs.People.{not_his_role}
use Rattle.desk_state.specs.Requests.{kept_at, floor_at, raised_by, kept_before}
use Rattle.desk_state.specs.Texts.{alerts_view, board_view, deferral_lines, newest, release_view, revision_number}

-- The tests. A number in parentheses is that of the refusal in the user's guide.

-- The person used the number before. The same ask gets the kept reply, and another one is refused (4).
abbrev pub repeated : KeptReply → List ℕ → Result Decision Refusal
repeated k digest = if bytes_eq k.digest digest then Ok (Show (Done k.done)) else Err (refusal.NumberReused k.id)

abbrev pub up_to_floor : Option ℕ → ℕ → Option Refusal
up_to_floor None number = None
up_to_floor (Some floor) number = refused_if (nat_le number floor) (refusal.NumberSwept floor)

-- the number is at or below the person's floor, so that its reply may have been swept (27)
abbrev pub swept_number : State → List ℕ → ℕ → Option Refusal
swept_number s actor number = up_to_floor (floor_at actor s.floors) number

-- the refusal of a report that the desk can't read (5, 6)
abbrev pub refusal_for : ℕ → Why → Refusal
refusal_for group why.TooLong = refusal.BadReport group why.TooLong
refusal_for group why.Missing = refusal.BadReport group why.Missing
refusal_for group why.NotStation = refusal.BadReport group why.NotStation
refusal_for group why.NotTime = refusal.BadReport group why.NotTime
refusal_for group why.DayOutOfReach = refusal.DayOutOfReach group
refusal_for group why.BadVisibility = refusal.BadReport group why.BadVisibility
refusal_for group why.BadSky = refusal.BadReport group why.BadSky
refusal_for group why.BadPeriod = refusal.BadReport group why.BadPeriod

abbrev pub reading_or : Result Read BadReport → Result Read Refusal
reading_or (Err bad) = Err (refusal_for bad.group bad.why)
reading_or (Ok read) = Ok read

-- the desk holds 200,000 reports (7)
abbrev pub reports_full : State → Option Refusal
reports_full s = refused_if (nat_le 200_000 (length s.reports)) (refusal.ReportsFull (length s.reports))

-- the station isn't an airport of the tables (25)
abbrev pub no_airport : State → Station → Option Refusal
no_airport s station = refused_if (not (has_airport s.tables station)) refusal.NoSuchStation

-- the type of an aircraft, or an unknown registration (8)
abbrev pub aircraft : State → List ℕ → Result TypeRow Refusal
aircraft s tail = some_or refusal.UnknownTail (type_of s.tables tail)

-- no open deferral has this id (9)
abbrev pub not_open : State → ℕ → Option Refusal
not_open s id = refused_if (not (list_any (has_id id) s.deferrals)) refusal.NoSuchDeferral

-- the minimum equipment list of the type lacks this item (28)
abbrev pub unlisted : State → TypeRow → List ℕ → Option Refusal
unlisted s kind item = refused_if (is_none (item_of s.tables kind.kind item)) refusal.UnknownItem

-- the item was found later than now (29)
abbrev pub found_later : State → ℕ → Option Refusal
found_later s found = refused_if (nat_lt s.moment found) (refusal.BadFound s.moment)

-- 50,000 deferrals are open (30)
abbrev pub deferrals_full : State → Option Refusal
deferrals_full s = refused_if (nat_le 50_000 (length s.deferrals)) (refusal.DeferralsFull (length s.deferrals))

-- the release with this id, or none has it (10)
abbrev pub held : State → ℕ → Result Release Refusal
held s id = some_or refusal.NoSuchRelease (release_at id s.releases)

-- the ask must come from another person (11)
abbrev pub not_yours : List ℕ → List ℕ → Option Refusal
not_yours person actor = refused_if (not (bytes_eq person actor)) (refusal.NotYours person)

-- the plan fails a test (12)
abbrev pub bad_plan : Option BadPlan → Option Refusal
bad_plan None = None
bad_plan (Some bad) = Some (refusal.BadPlan bad.leg bad.why)

-- the pending revision, or there is none (13, stage 0)
abbrev pub pending : Release → Result Revision Refusal
pending r = some_or (refusal.NotPending 0) r.pending

-- the pending revision isn't prepared (13, stage 1)
abbrev pub unprepared : Revision → Option Refusal
unprepared v = refused_if (not v.prepared) (refusal.NotPending 1)

-- the dispatcher hasn't signed (13, stage 2)
abbrev pub unsigned : Option Signature → Option Refusal
unsigned None = Some (refusal.NotPending 2)
unsigned (Some signature) = None

-- the pending revision has another number (14)
abbrev pub misnumbered : Revision → ℕ → Option Refusal
misnumbered v number = refused_if (not (v.number == number)) (refusal.WrongRevision v.number)

-- the text of the pending revision has another digest (15)
abbrev pub mistaken_text : Revision → List ℕ → Option Refusal
mistaken_text v digest = refused_if (not (bytes_eq (revision_digest v) digest)) (refusal.WrongText (revision_digest v))

abbrev pub newer_weather : Option ℕ → Option Refusal
newer_weather None = None
newer_weather (Some report) = Some (refusal.WeatherNewer report)

-- a report is newer than the weather attached to the pending revision (16)
abbrev pub outdated : State → Release → Revision → Option Refusal
outdated s r v = newer_weather (newer_than s.reports v.plan r.phase v.attached)

-- rules fail (17)
abbrev pub failing : List Finding → Option Refusal
failing [] = None
failing (f ∷ fs) = Some (refusal.RuleFails (f ∷ fs))

-- The phase after the captain's signature: a draft becomes ready, and a stopped flight is released again. The desk
-- judges both signatures in that phase.
abbrev pub once_signed : Phase → Phase
once_signed Drafted = Ready
once_signed Ready = Ready
once_signed (Flying leg) = Flying leg
once_signed (Stopped next since again) = Stopped next since true
once_signed (Completed at) = Completed at
once_signed (Cancelled at) = Cancelled at

abbrev pub fails : State → Release → Revision → Option Refusal
fails s r v = failing (findings_of v.plan (once_signed r.phase) (grounds_of s))

abbrev pub failing_any : Option (List Finding) → Option Refusal
failing_any None = None
failing_any (Some findings) = failing findings

-- the active revision fails rules now (17)
abbrev pub fails_now : State → Release → Option Refusal
fails_now s r = failing_any (failing_of (grounds_of s) r)

-- What each phase allows. A release may be amended and cancelled until it ends.
abbrev pub may_change : Phase → Bool
may_change Drafted = true
may_change Ready = true
may_change (Flying leg) = true
may_change (Stopped next since again) = true
may_change (Completed at) = false
may_change (Cancelled at) = false

-- leg 1 may depart once both have signed, and each other leg once the one before it has arrived
abbrev pub may_depart : Phase → ℕ → Bool
may_depart Drafted leg = false
may_depart Ready leg = leg == 1
may_depart (Flying in_flight) leg = false
may_depart (Stopped next since again) leg = leg == next
may_depart (Completed at) leg = false
may_depart (Cancelled at) leg = false

-- the phase doesn't allow the ask (18)
abbrev pub out_of_phase : Bool → Phase → Option Refusal
out_of_phase allowed phase = refused_if (not allowed) (refusal.WrongPhase phase)

-- the moment at which a release ended
abbrev pub ended_at : Phase → Option ℕ
ended_at Drafted = None
ended_at Ready = None
ended_at (Flying leg) = None
ended_at (Stopped next since again) = None
ended_at (Completed at) = Some at
ended_at (Cancelled at) = Some at

-- the moment at which the release ended, or it hasn't (18)
abbrev pub ended : Phase → Result ℕ Refusal
ended phase = some_or (refusal.WrongPhase phase) (ended_at phase)

-- The end of a release's retention: the end of the day three months after the day on which it ended (14 CFR 121.695).
abbrev pub kept_until : ℕ → ℕ
kept_until at = 1440 * (three_months (at / 1440) + 1)

-- the moment of removal hasn't come (22)
abbrev pub too_young : State → ℕ → Option Refusal
too_young s until = refused_if (nat_lt s.moment until) (refusal.TooYoung until)

-- the desk holds 20,000 releases (23)
abbrev pub releases_full : State → Option Refusal
releases_full s = refused_if (nat_le 20_000 (length s.releases)) (refusal.ReleasesFull (length s.releases))

-- the dispatcher has signed already (19)
abbrev pub signed : Option Signature → Option Refusal
signed None = None
signed (Some signature) = Some refusal.AlreadySigned

-- the alert of the release, or there is none (20)
abbrev pub alert_of : State → ℕ → Result Alert Refusal
alert_of s id = some_or refusal.NoSuchAlert (alert_at id s.alerts)

-- the alert has another version (21)
abbrev pub moved : Alert → ℕ → Option Refusal
moved a version = refused_if (not (a.version == version)) (refusal.AlertMoved a.version)

-- the plan may not replace that of the newest revision (12)
abbrev pub bad_change : Plan → Option Revision → Phase → Option Refusal
bad_change plan None phase = None
bad_change plan (Some v) phase = bad_plan (change_fault plan v.plan phase)

abbrev pub captain_or : Option Revision → List ℕ → List ℕ
captain_or None holder = holder
captain_or (Some v) holder = v.plan.captain

-- The person who may report legs: for a captain, the one whom the active plan names; for any other role, the holder.
abbrev pub flies_by : Option Actor → Release → List ℕ
flies_by None r = r.holder
flies_by (Some person) r = if is_captain_role person.role then captain_or r.active r.holder else r.holder

-- The releases that the asks make.

-- a revision of a plan, not yet prepared
abbrev pub fresh_revision : ℕ → Plan → Revision
fresh_revision number plan = record { number = number; plan = plan; prepared = false; attached = []; dispatcher = None; captain = None; hours = None }

abbrev pub drafted : ℕ → List ℕ → Plan → Release
drafted id actor plan = record { id = id; holder = actor; phase = Drafted; pending = Some (fresh_revision 1 plan); active = None }

-- a revision with the latest weather and no signatures
abbrev pub with_weather : State → Phase → Revision → Revision
with_weather s phase v = record v { prepared = true; attached = attached_to s.reports v.plan phase; dispatcher = None; captain = None; hours = None }

abbrev pub prepared : State → Release → Revision → Release
prepared s r v = record r { pending = Some (with_weather s r.phase v) }

abbrev pub signed_by : List ℕ → ℕ → List ℕ → Signature
signed_by actor moment digest = record { actor = actor; at = moment; digest = digest }

abbrev pub with_dispatcher : Release → Revision → Signature → Release
with_dispatcher r v signature = record r { pending = Some (record v { dispatcher = Some signature }) }

-- a revision with its captain's signature and hours
abbrev pub with_captain : Revision → Signature → ℕ → Revision
with_captain v signature hours = record v { captain = Some signature; hours = Some hours }

-- the release whose pending revision has become the active one
abbrev pub made_active : Release → Revision → Signature → ℕ → Release
made_active r v signature hours = record r { phase = once_signed r.phase; pending = None; active = Some (with_captain v signature hours) }

-- the release with a plan pending, in a revision with the next number
abbrev pub amended : Release → Plan → Release
amended r plan = record r { pending = Some (fresh_revision (revision_number (newest r.pending r.active) + 1) plan) }

abbrev pub cancelled : Release → ℕ → Release
cancelled r moment = record r { phase = Cancelled moment; pending = None }

abbrev pub departed : Release → ℕ → Release
departed r leg = record r { phase = Flying leg; pending = None }

-- the number of legs of a revision's plan
abbrev pub leg_count : Option Revision → ℕ
leg_count None = 0
leg_count (Some v) = length v.plan.legs

-- the active plan has a leg after this one
abbrev pub has_more : Release → ℕ → Bool
has_more r leg = nat_lt leg (leg_count r.active)

abbrev pub stopped : Release → ℕ → ℕ → Release
stopped r leg moment = record r { phase = Stopped (leg + 1) moment false; pending = None }

abbrev pub completed : Release → ℕ → Release
completed r moment = record r { phase = Completed moment; pending = None }

-- The asks.

-- admits a report under the next id
abbrev pub admit_new : State → List ℕ → Read → Result Decision Refusal
admit_new s text read =
    unless (reports_full s)
    (Ok (Do (done.Report s.counters.next_report) (effect.admit (record { id = s.counters.next_report; received = s.moment; text = text; read = read }))))

-- a report that the desk holds already keeps its id
abbrev pub admit_read : Option ℕ → State → List ℕ → Read → Result Decision Refusal
admit_read (Some id) s text read = Ok (Show (Done (done.Report id)))
admit_read None s text read = admit_new s text read

-- the text is read at the desk's moment
abbrev pub decide_admit : State → List ℕ → Result Decision Refusal
decide_admit s text =
    reading_or (read_of text s.moment) >>- λ read. unless (no_airport s (station_of_read read)) (admit_read (same_id s.reports (canonical (groups_of text)) (minute_of_read read)) s (canonical (groups_of text)) read)

abbrev pub decide_defer : State → List ℕ → List ℕ → ℕ → Result Decision Refusal
decide_defer s tail item found =
    aircraft s tail >>- λ kind.
    unless (unlisted s kind item) (unless (found_later s found) (unless (deferrals_full s)
    (Ok (Do (done.Deferral s.counters.next_deferral) (effect.defer (record { id = s.counters.next_deferral; tail = tail; item = item; found = found }))))))

abbrev pub decide_clear : State → ℕ → Result Decision Refusal
decide_clear s id = unless (not_open s id) (Ok (Do (done.Deferral id) (effect.clear id)))

-- shows the open deferrals of an aircraft
abbrev pub decide_deferred : State → List ℕ → Result Decision Refusal
decide_deferred s tail = aircraft s tail >>- λ kind. Ok (Show (Seen (deferral_lines s.tables kind.kind (open_on tail s.deferrals))))

abbrev pub decide_draft : State → List ℕ → Plan → Result Decision Refusal
decide_draft s actor plan =
    unless (bad_plan (plan_fault s.tables plan)) (unless (releases_full s)
    (Ok (Do (done.Filed s.counters.next_release 1) (effect.file (drafted s.counters.next_release actor plan)))))

abbrev pub decide_prepare : State → List ℕ → ℕ → Result Decision Refusal
decide_prepare s actor id =
    held s id >>- λ r. pending r >>- λ v. unless (not_yours r.holder actor)
    (Ok (Do (done.Prepared r.id v.number (revision_digest (with_weather s r.phase v))) (effect.put (prepared s r v))))

abbrev pub decide_sign : State → List ℕ → ℕ → ℕ → List ℕ → Result Decision Refusal
decide_sign s actor id number digest =
    held s id >>- λ r. pending r >>- λ v.
    unless (unprepared v) (unless (not_yours r.holder actor) (unless (misnumbered v number) (unless (mistaken_text v digest)
    (unless (signed v.dispatcher) (unless (outdated s r v) (unless (fails s r v)
    (Ok (Do (done.Filed r.id v.number) (effect.put (with_dispatcher r v (signed_by actor s.moment digest)))))))))))

abbrev pub decide_concur : State → List ℕ → ℕ → ℕ → List ℕ → Result Decision Refusal
decide_concur s actor id number digest =
    held s id >>- λ r. pending r >>- λ v.
    unless (unprepared v) (unless (unsigned v.dispatcher) (unless (not_yours v.plan.captain actor) (unless (misnumbered v number)
    (unless (mistaken_text v digest) (unless (outdated s r v) (unless (fails s r v)
    (Ok (Do (done.Filed r.id v.number) (effect.put_afresh (made_active r v (signed_by actor s.moment digest) (captain_hours s.tables v.plan)))))))))))

abbrev pub decide_amend : State → List ℕ → ℕ → Plan → Result Decision Refusal
decide_amend s actor id plan =
    held s id >>- λ r. unless (out_of_phase (may_change r.phase) r.phase) (unless (not_yours r.holder actor)
    (unless (bad_plan (plan_fault s.tables plan)) (unless (bad_change plan (newest r.pending r.active) r.phase)
    (Ok (Do (done.Filed r.id (revision_number (newest r.pending r.active) + 1)) (effect.put (amended r plan)))))))

abbrev pub decide_cancel : State → List ℕ → ℕ → Result Decision Refusal
decide_cancel s actor id =
    held s id >>- λ r. unless (out_of_phase (may_change r.phase) r.phase) (unless (not_yours r.holder actor)
    (Ok (Do (done.Release r.id) (effect.put_afresh (cancelled r s.moment)))))

abbrev pub decide_depart : State → List ℕ → ℕ → ℕ → Result Decision Refusal
decide_depart s actor id leg =
    held s id >>- λ r. unless (out_of_phase (may_depart r.phase leg) r.phase) (unless (not_yours (flies_by (actor_of s.tables actor) r) actor)
    (unless (fails_now s r) (Ok (Do (done.Release r.id) (effect.put (departed r leg))))))

-- when a leg arrives, the release waits for the next leg; after the last leg it is completed and its alert is removed
abbrev pub arrival : Bool → Release → ℕ → ℕ → Decision
arrival true r leg moment = Do (done.Release r.id) (effect.put (stopped r leg moment))
arrival false r leg moment = Do (done.Release r.id) (effect.put_afresh (completed r moment))

abbrev pub decide_arrive : State → List ℕ → ℕ → ℕ → Result Decision Refusal
decide_arrive s actor id leg =
    held s id >>- λ r. unless (out_of_phase (is_flying r.phase leg) r.phase) (unless (not_yours (flies_by (actor_of s.tables actor) r) actor)
    (Ok (arrival (has_more r leg) r leg s.moment)))

abbrev pub decide_acknowledge : State → List ℕ → ℕ → ℕ → Result Decision Refusal
decide_acknowledge s actor id version =
    held s id >>- λ r. alert_of s r.id >>- λ a. unless (not_yours r.holder actor) (unless (moved a version)
    (Ok (Do (done.Release r.id) (effect.acknowledge r.id))))

abbrev pub decide_purge : State → ℕ → Result Decision Refusal
decide_purge s id =
    held s id >>- λ r. ended r.phase >>- λ at. unless (too_young s (kept_until at))
    (Ok (Do (done.Release r.id) (effect.remove r.id)))

abbrev pub is_attached_to : ℕ → Option Revision → Bool
is_attached_to id None = false
is_attached_to id (Some v) = list_any (λ a. a.report == id) v.attached

-- the pending or the active revision of a release has the report with this id attached
abbrev pub is_attached : ℕ → List Release → Bool
is_attached id releases = list_any (λ r. is_attached_to id r.pending || is_attached_to id r.active) releases

-- the ids of the stored reports that releases have attached
abbrev pub attached_reports : State → List ℕ
attached_reports s = map (λ r. r.id) (filter (λ r. is_attached r.id s.releases) s.reports)

-- the reports that a sweep removes
abbrev pub reports_before : State → ℕ → List Report
reports_before s before = leaving before (attached_reports s) s.reports

-- a sweep's cut-off must be at least three days (4,320 minutes) ago
abbrev pub decide_sweep : State → ℕ → Result Decision Refusal
decide_sweep s before =
    unless (too_young s (before + 4320))
    (Ok (Do (done.Swept (length (reports_before s before)) (length (kept_before before s.kept)))
    (effect.sweep before (attached_reports s) (raised_by (kept_before before s.kept) s.floors))))

-- shows a release and the texts of its revisions
abbrev pub decide_release : State → ℕ → Result Decision Refusal
decide_release s id = held s id >>- λ r. Ok (Show (Seen (release_view r)))

-- shows the latest weather of an airport
abbrev pub decide_weather : State → Station → Result Decision Refusal
decide_weather s station = unless (no_airport s station) (Ok (Show (Seen (weather_at s.reports station))))

abbrev pub decide_ask : State → List ℕ → Ask → Result Decision Refusal
decide_ask s actor (ask.Admit text) = decide_admit s text
decide_ask s actor (ask.Defer tail item found) = decide_defer s tail item found
decide_ask s actor (ask.Clear deferral) = decide_clear s deferral
decide_ask s actor (ask.Draft plan) = decide_draft s actor plan
decide_ask s actor (ask.Prepare release) = decide_prepare s actor release
decide_ask s actor (ask.Sign release revision digest) = decide_sign s actor release revision digest
decide_ask s actor (ask.Concur release revision digest) = decide_concur s actor release revision digest
decide_ask s actor (ask.Amend release plan) = decide_amend s actor release plan
decide_ask s actor (ask.Cancel release) = decide_cancel s actor release
decide_ask s actor (ask.Depart release leg) = decide_depart s actor release leg
decide_ask s actor (ask.Arrive release leg) = decide_arrive s actor release leg
decide_ask s actor (ask.Acknowledge release version) = decide_acknowledge s actor release version
decide_ask s actor (ask.Purge release) = decide_purge s release
decide_ask s actor (ask.Sweep before) = decide_sweep s before
decide_ask s actor ask.ViewBoard = Ok (Show (Seen (board_view s)))
decide_ask s actor ask.ViewAlerts = Ok (Show (Seen (alerts_view s.moment s.alerts)))
decide_ask s actor (ask.ViewRelease release) = decide_release s release
decide_ask s actor (ask.ViewWeather station) = decide_weather s station
decide_ask s actor (ask.ViewDeferred tail) = decide_deferred s tail

-- an ask that only shows something
abbrev pub is_view : Ask → Bool
is_view ask.ViewBoard = true
is_view ask.ViewAlerts = true
is_view (ask.ViewRelease release) = true
is_view (ask.ViewWeather station) = true
is_view (ask.ViewDeferred tail) = true
is_view _ = false

abbrev pub decide_new : Option KeptReply → State → Call → Result Decision Refusal
decide_new (Some k) s call = repeated k (ask_digest call.ask)
decide_new None s call = unless (swept_number s call.actor call.number) (decide_ask s call.actor call.ask)

-- The number of a command is looked up before the ask's own tests. The number of a view is ignored.
abbrev pub decide_numbered : Bool → State → Call → Result Decision Refusal
decide_numbered true s call = decide_ask s call.actor call.ask
decide_numbered false s call = decide_new (kept_at call.actor call.number s.kept) s call

-- the decision on a call whose name and key are right
unfoldable pub decide : State → Call → Result Decision Refusal
decide s call = unless (not_his_role (actor_of s.tables call.actor) call.ask) (decide_numbered (is_view call.ask) s call)

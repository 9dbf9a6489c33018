-- The texts of replies and of faults: JSON without white space, keys in byte order.
use Rattle.std.specs.Prelude.{ℕ, List, codes}
use Rattle.serde_json.specs.Data.{Data, object, Members, member, no_members, put, string}
use Rattle.serde_json.specs.Written.{compact_text}
use Rattle.codes.specs.declared.fault.Why.{Why}
use Rattle.codes.specs.declared.fault.Why.TheVariants as why
use Rattle.plan.specs.Texts.{phase_text}
use Rattle.plan.specs.declared.check.PlanWhy.{PlanWhy}
use Rattle.plan.specs.declared.check.PlanWhy.TheVariants as plan_why
use Rattle.asks.specs.declared.bad_call.BadCall.{BadCall}
use Rattle.asks.specs.declared.bad_call.CallWhy.{CallWhy}
use Rattle.asks.specs.declared.bad_call.CallWhy.TheVariants as call_why
use Rattle.asks.specs.declared.reply.Reply.{Reply}
use Rattle.asks.specs.declared.reply.Reply.TheVariants.{Done, Seen, Refused}
use Rattle.asks.specs.declared.reply.Refusal.{Refusal}
use Rattle.asks.specs.declared.reply.Refusal.TheVariants.{UnknownActor, WrongKey, NotYourRole, NumberReused, BadReport, DayOutOfReach, ReportsFull, UnknownTail, NoSuchDeferral, NoSuchRelease, NotYours, BadPlan, NotPending, WrongRevision, WrongText, WeatherNewer, RuleFails, WrongPhase, AlreadySigned, NoSuchAlert, AlertMoved, TooYoung, ReleasesFull, HistoryFull, NoSuchStation, Unkept, NumberSwept, UnknownItem, BadFound, DeferralsFull}
use Rattle.asks.specs.Digests.{digest_data}
use Rattle.asks.specs.Canonical.{count, text_data, moment_data, list_data, done_data}
use Rattle.release_json.specs.Findings.{finding_data}

-- the name of the reason why a report can't be read
abbrev pub why_name : Why → List ℕ
why_name why.TooLong = codes "TooLong"
why_name why.Missing = codes "Missing"
why_name why.NotStation = codes "NotStation"
why_name why.NotTime = codes "NotTime"
why_name why.DayOutOfReach = codes "DayOutOfReach"
why_name why.BadVisibility = codes "BadVisibility"
why_name why.BadSky = codes "BadSky"
why_name why.BadPeriod = codes "BadPeriod"

-- the name of the test that a plan fails
abbrev pub plan_why_name : PlanWhy → List ℕ
plan_why_name plan_why.UnknownTail = codes "UnknownTail"
plan_why_name plan_why.UnknownCaptain = codes "UnknownCaptain"
plan_why_name plan_why.Count = codes "Count"
plan_why_name plan_why.NoAirport = codes "NoAirport"
plan_why_name plan_why.Repeated = codes "Repeated"
plan_why_name plan_why.Unjoined = codes "Unjoined"
plan_why_name plan_why.Times = codes "Times"
plan_why_name plan_why.Amount = codes "Amount"
plan_why_name plan_why.Changed = codes "Changed"
plan_why_name plan_why.Flown = codes "Flown"

-- the number of a refusal
abbrev pub refusal_number : Refusal → ℕ
refusal_number UnknownActor = 1
refusal_number WrongKey = 2
refusal_number NotYourRole = 3
refusal_number (NumberReused kept) = 4
refusal_number (BadReport group what) = 5
refusal_number (DayOutOfReach group) = 6
refusal_number (ReportsFull held) = 7
refusal_number UnknownTail = 8
refusal_number NoSuchDeferral = 9
refusal_number NoSuchRelease = 10
refusal_number (NotYours holder) = 11
refusal_number (BadPlan leg what) = 12
refusal_number (NotPending stage) = 13
refusal_number (WrongRevision current) = 14
refusal_number (WrongText digest) = 15
refusal_number (WeatherNewer report) = 16
refusal_number (RuleFails findings) = 17
refusal_number (WrongPhase phase) = 18
refusal_number AlreadySigned = 19
refusal_number NoSuchAlert = 20
refusal_number (AlertMoved version) = 21
refusal_number (TooYoung until) = 22
refusal_number (ReleasesFull held) = 23
refusal_number (HistoryFull entries kept events) = 24
refusal_number NoSuchStation = 25
refusal_number (Unkept faults) = 26
refusal_number (NumberSwept floor) = 27
refusal_number UnknownItem = 28
refusal_number (BadFound moment) = 29
refusal_number (DeferralsFull held) = 30

-- the name of a refusal
abbrev pub refusal_name : Refusal → List ℕ
refusal_name UnknownActor = codes "UnknownActor"
refusal_name WrongKey = codes "WrongKey"
refusal_name NotYourRole = codes "NotYourRole"
refusal_name (NumberReused kept) = codes "NumberReused"
refusal_name (BadReport group what) = codes "BadReport"
refusal_name (DayOutOfReach group) = codes "DayOutOfReach"
refusal_name (ReportsFull held) = codes "ReportsFull"
refusal_name UnknownTail = codes "UnknownTail"
refusal_name NoSuchDeferral = codes "NoSuchDeferral"
refusal_name NoSuchRelease = codes "NoSuchRelease"
refusal_name (NotYours holder) = codes "NotYours"
refusal_name (BadPlan leg what) = codes "BadPlan"
refusal_name (NotPending stage) = codes "NotPending"
refusal_name (WrongRevision current) = codes "WrongRevision"
refusal_name (WrongText digest) = codes "WrongText"
refusal_name (WeatherNewer report) = codes "WeatherNewer"
refusal_name (RuleFails findings) = codes "RuleFails"
refusal_name (WrongPhase phase) = codes "WrongPhase"
refusal_name AlreadySigned = codes "AlreadySigned"
refusal_name NoSuchAlert = codes "NoSuchAlert"
refusal_name (AlertMoved version) = codes "AlertMoved"
refusal_name (TooYoung until) = codes "TooYoung"
refusal_name (ReleasesFull held) = codes "ReleasesFull"
refusal_name (HistoryFull entries kept events) = codes "HistoryFull"
refusal_name NoSuchStation = codes "NoSuchStation"
refusal_name (Unkept faults) = codes "Unkept"
refusal_name (NumberSwept floor) = codes "NumberSwept"
refusal_name UnknownItem = codes "UnknownItem"
refusal_name (BadFound moment) = codes "BadFound"
refusal_name (DeferralsFull held) = codes "DeferralsFull"

-- a place in a report or a plan, and the reason
abbrev pub with_reason : List ℕ → ℕ → List ℕ → Members → Members
with_reason key place what ms = put (codes "what") (string what) (put key (count place) ms)

-- the numbers of entries in the history, of kept replies, and of events
abbrev pub with_counts : ℕ → ℕ → ℕ → Members → Members
with_counts entries kept events ms = put (codes "kept") (count kept) (put (codes "events") (count events) (put (codes "entries") (count entries) ms))

-- Members with the fields of a refusal added, besides its number and its name. Each key is put in byte order.
abbrev pub with_fields : Refusal → Members → Members
with_fields UnknownActor ms = ms
with_fields WrongKey ms = ms
with_fields NotYourRole ms = ms
with_fields (NumberReused kept) ms = put (codes "kept") (count kept) ms
with_fields (BadReport group what) ms = with_reason (codes "group") group (why_name what) ms
with_fields (DayOutOfReach group) ms = put (codes "group") (count group) ms
with_fields (ReportsFull held) ms = put (codes "held") (count held) ms
with_fields UnknownTail ms = ms
with_fields NoSuchDeferral ms = ms
with_fields NoSuchRelease ms = ms
with_fields (NotYours holder) ms = put (codes "holder") (text_data holder) ms
with_fields (BadPlan leg what) ms = with_reason (codes "leg") leg (plan_why_name what) ms
with_fields (NotPending stage) ms = put (codes "stage") (count stage) ms
with_fields (WrongRevision current) ms = put (codes "current") (count current) ms
with_fields (WrongText digest) ms = put (codes "digest") (digest_data digest) ms
with_fields (WeatherNewer report) ms = put (codes "report") (count report) ms
with_fields (RuleFails findings) ms = put (codes "findings") (list_data finding_data findings) ms
with_fields (WrongPhase phase) ms = put (codes "phase") (text_data (phase_text phase)) ms
with_fields AlreadySigned ms = ms
with_fields NoSuchAlert ms = ms
with_fields (AlertMoved version) ms = put (codes "version") (count version) ms
with_fields (TooYoung until) ms = put (codes "until") (moment_data until) ms
with_fields (ReleasesFull held) ms = put (codes "held") (count held) ms
with_fields (HistoryFull entries kept events) ms = with_counts entries kept events ms
with_fields NoSuchStation ms = ms
with_fields (Unkept faults) ms = put (codes "faults") (count faults) ms
with_fields (NumberSwept floor) ms = put (codes "floor") (count floor) ms
with_fields UnknownItem ms = ms
with_fields (BadFound moment) ms = put (codes "now") (moment_data moment) ms
with_fields (DeferralsFull held) ms = put (codes "held") (count held) ms

-- the members that every refusal has: its number and its name
abbrev pub numbered : ℕ → List ℕ → Members
numbered number name = member (codes "refused") (count number) (member (codes "why") (string name) no_members)

abbrev pub refusal_members : Refusal → Members
refusal_members r = numbered (refusal_number r) (refusal_name r)

abbrev pub refusal_data : Refusal → Data
refusal_data r = object (with_fields r (refusal_members r))

abbrev pub reply_data : Reply → Data
reply_data (Done done) = object (member (codes "done") (done_data done) no_members)
reply_data (Seen text) = object (member (codes "seen") (text_data text) no_members)
reply_data (Refused refusal) = refusal_data refusal

-- the text of a reply
unfoldable pub reply_text : Reply → List ℕ
reply_text reply = compact_text (reply_data reply)

-- the name of the fault of a call
abbrev pub call_why_name : CallWhy → List ℕ
call_why_name call_why.NotJson = codes "NotJson"
call_why_name call_why.NotObject = codes "NotObject"
call_why_name call_why.Extra = codes "Extra"
call_why_name call_why.Missing = codes "Missing"
call_why_name call_why.BadValue = codes "BadValue"
call_why_name call_why.UnknownAsk = codes "UnknownAsk"

abbrev pub bad_data : BadCall → Data
bad_data bad = object (member (codes "bad") (string (call_why_name bad.why)) (member (codes "key") (text_data bad.key) no_members))

-- the text of the fault of a call
unfoldable pub bad_text : BadCall → List ℕ
bad_text bad = compact_text (bad_data bad)

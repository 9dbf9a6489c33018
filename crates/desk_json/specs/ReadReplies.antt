-- The reply that a text represents, if the text is the canonical one of that reply.
use Rattle.std.specs.Prelude.{◌≡◌, ℕ, ◌≤◌, ◌==◌, if◌then◌else◌, is_some, List, [], Option, None, Some, codes, option_and_then, Result, Ok, Err, IsUtf8}
use Rattle.std.specs.List.{AllByRecursion}
use Rattle.std.specs.Str.{bytes_eq}
use Rattle.serde_json.specs.Data.{Data}
use Rattle.serde_json.specs.Find.{get, as_str}
use Rattle.desk_time.specs.Digits.{◌>>=◌}
use Rattle.desk_time.specs.Moments.{shown_of}
use Rattle.codes.specs.declared.fault.Why.{Why}
use Rattle.codes.specs.declared.fault.Why.TheVariants as why
use Rattle.plan.specs.declared.check.PlanWhy.{PlanWhy}
use Rattle.plan.specs.declared.check.PlanWhy.TheVariants as plan_why
use Rattle.plan.specs.declared.findings.Finding.{Finding}
use Rattle.asks.specs.Ranges.{CanBeShown}
use Rattle.asks.specs.declared.bad_call.BadCall.{BadCall}
use Rattle.asks.specs.declared.bad_call.CallWhy.TheVariants.{NotJson}
use Rattle.asks.specs.declared.reply.Reply.{Reply}
use Rattle.asks.specs.declared.reply.Reply.TheVariants.{Done, Seen, Refused}
use Rattle.asks.specs.declared.reply.Refusal.{Refusal}
use Rattle.asks.specs.declared.reply.Refusal.TheVariants.{UnknownActor, WrongKey, NotYourRole, NumberReused, BadReport, DayOutOfReach, ReportsFull, UnknownTail, NoSuchDeferral, NoSuchRelease, NotYours, BadPlan, NotPending, WrongRevision, WrongText, WeatherNewer, RuleFails, WrongPhase, AlreadySigned, NoSuchAlert, AlertMoved, TooYoung, ReleasesFull, HistoryFull, NoSuchStation, Unkept, NumberSwept, UnknownItem, BadFound, DeferralsFull}
use Rattle.asks.specs.Forms.{IsAmount, SaidDoneHasForms, IsSaidFinding}
use Rattle.asks.specs.Digests.{digest_at, IsDigest}
use Rattle.asks.specs.Dones.{said_done_of}
use Rattle.asks.specs.Fields.{data_of, text_at, number_at, amount_at, list_at, each_read}
use Rattle.release_json.specs.Findings.{said_finding_of}
use Rattle.release_json.specs.Phases.{phase_of, IsPhase}
use Rattle.desk_json.specs.Keys.{bad}
use Rattle.desk_json.specs.Replies.{reply_text}
use Rattle.desk_json.specs.declared.bad_call.CallFault.{CallFault}
use Rattle.desk_json.specs.Faults.{Answers, Gives}

-- ---- fields

-- a 64-bit number
abbrev pub wide_at : List ℕ → Data → Option ℕ
wide_at key d = number_at key 18_446_744_073_709_551_615 d

-- a moment that the desk can print
abbrev pub shown_at : List ℕ → Data → Option ℕ
shown_at key d = option_and_then shown_of (text_at key d)

-- the reason with this name
abbrev pub why_of : List ℕ → Option Why
why_of name =
    if bytes_eq name (codes "TooLong") then Some why.TooLong
    else (if bytes_eq name (codes "Missing") then Some why.Missing
    else (if bytes_eq name (codes "NotStation") then Some why.NotStation
    else (if bytes_eq name (codes "NotTime") then Some why.NotTime
    else (if bytes_eq name (codes "DayOutOfReach") then Some why.DayOutOfReach
    else (if bytes_eq name (codes "BadVisibility") then Some why.BadVisibility
    else (if bytes_eq name (codes "BadSky") then Some why.BadSky
    else (if bytes_eq name (codes "BadPeriod") then Some why.BadPeriod else None)))))))

-- the failed test of a plan with this name
abbrev pub plan_why_of : List ℕ → Option PlanWhy
plan_why_of name =
    if bytes_eq name (codes "UnknownTail") then Some plan_why.UnknownTail
    else (if bytes_eq name (codes "UnknownCaptain") then Some plan_why.UnknownCaptain
    else (if bytes_eq name (codes "Count") then Some plan_why.Count
    else (if bytes_eq name (codes "NoAirport") then Some plan_why.NoAirport
    else (if bytes_eq name (codes "Repeated") then Some plan_why.Repeated
    else (if bytes_eq name (codes "Unjoined") then Some plan_why.Unjoined
    else (if bytes_eq name (codes "Times") then Some plan_why.Times
    else (if bytes_eq name (codes "Amount") then Some plan_why.Amount
    else (if bytes_eq name (codes "Changed") then Some plan_why.Changed
    else (if bytes_eq name (codes "Flown") then Some plan_why.Flown else None)))))))))

-- ---- refusals

-- refusals without fields of their own
abbrev pub plain_of : ℕ → Option Refusal
plain_of n =
    if n == 1 then Some UnknownActor
    else (if n == 2 then Some WrongKey
    else (if n == 3 then Some NotYourRole
    else (if n == 8 then Some UnknownTail
    else (if n == 9 then Some NoSuchDeferral
    else (if n == 10 then Some NoSuchRelease
    else (if n == 19 then Some AlreadySigned
    else (if n == 20 then Some NoSuchAlert
    else (if n == 25 then Some NoSuchStation
    else (if n == 28 then Some UnknownItem else None)))))))))

-- refusals with one 64-bit number as a field; others go to plain_of
abbrev pub counted_of : ℕ → Data → Option Refusal
counted_of n d =
    if n == 4 then (wide_at (codes "kept") d >>= λ kept. Some (NumberReused kept))
    else (if n == 7 then (wide_at (codes "held") d >>= λ held. Some (ReportsFull held))
    else (if n == 14 then (wide_at (codes "current") d >>= λ current. Some (WrongRevision current))
    else (if n == 16 then (wide_at (codes "report") d >>= λ report. Some (WeatherNewer report))
    else (if n == 21 then (wide_at (codes "version") d >>= λ version. Some (AlertMoved version))
    else (if n == 23 then (wide_at (codes "held") d >>= λ held. Some (ReleasesFull held))
    else (if n == 26 then (wide_at (codes "faults") d >>= λ faults. Some (Unkept faults))
    else (if n == 27 then (wide_at (codes "floor") d >>= λ floor. Some (NumberSwept floor))
    else (if n == 30 then (wide_at (codes "held") d >>= λ held. Some (DeferralsFull held)) else plain_of n))))))))

abbrev pub bad_report_of : Data → Option Refusal
bad_report_of d = amount_at (codes "group") d >>= λ group. option_and_then why_of (text_at (codes "what") d) >>= λ what. Some (BadReport group what)

abbrev pub bad_plan_of : Data → Option Refusal
bad_plan_of d = amount_at (codes "leg") d >>= λ leg. option_and_then plan_why_of (text_at (codes "what") d) >>= λ what. Some (BadPlan leg what)

abbrev pub wrong_phase_of : Data → Option Refusal
wrong_phase_of d = option_and_then phase_of (text_at (codes "phase") d) >>= λ phase. Some (WrongPhase phase)

abbrev pub history_full_of : Data → Option Refusal
history_full_of d =
    wide_at (codes "entries") d >>= λ entries. wide_at (codes "kept") d >>= λ kept. wide_at (codes "events") d >>= λ events.
    Some (HistoryFull entries kept events)

-- refusals with other fields of fixed size; others go to counted_of
abbrev pub fixed_of : ℕ → Data → Option Refusal
fixed_of n d =
    if n == 5 then bad_report_of d
    else (if n == 6 then (amount_at (codes "group") d >>= λ group. Some (DayOutOfReach group))
    else (if n == 12 then bad_plan_of d
    else (if n == 13 then (number_at (codes "stage") 255 d >>= λ stage. Some (NotPending stage))
    else (if n == 15 then (digest_at (codes "digest") d >>= λ digest. Some (WrongText digest))
    else (if n == 18 then wrong_phase_of d
    else (if n == 22 then (shown_at (codes "until") d >>= λ until. Some (TooYoung until))
    else (if n == 24 then history_full_of d
    else (if n == 29 then (shown_at (codes "now") d >>= λ moment. Some (BadFound moment)) else counted_of n d))))))))

abbrev pub not_yours_of : Data → Option Refusal
not_yours_of d = text_at (codes "holder") d >>= λ holder. Some (NotYours holder)

abbrev pub finding_in : Data → Option Finding
finding_in d = option_and_then said_finding_of (as_str d)

-- findings in any order
abbrev pub rule_fails_of : Data → Option Refusal
rule_fails_of d = list_at (codes "findings") d >>= λ items. each_read finding_in items >>= λ findings. Some (RuleFails findings)

-- the refusal with this number, and its fields
abbrev pub refusal_of : ℕ → Data → Option Refusal
refusal_of n d = if n == 11 then not_yours_of d else (if n == 17 then rule_fails_of d else fixed_of n d)

-- ---- replies

abbrev pub done_in : Data → Option Reply
done_in d = option_and_then said_done_of (get (codes "done") d) >>= λ done. Some (Done done)

abbrev pub seen_in : Data → Option Reply
seen_in d = text_at (codes "seen") d >>= λ text. Some (Seen text)

abbrev pub refused_in : Data → Option Reply
refused_in d = wide_at (codes "refused") d >>= λ n. refusal_of n d >>= λ refusal. Some (Refused refusal)

-- the reply read from JSON, whatever else that contains
abbrev pub reply_of : Data → Option Reply
reply_of d = if is_some (get (codes "done") d) then done_in d else (if is_some (get (codes "seen") d) then seen_in d else refused_in d)

abbrev pub if_text : List ℕ → Reply → Option Reply
if_text text reply = if bytes_eq (reply_text reply) text then Some reply else None

-- the reply that a text represents, if it has exactly that text
unfoldable pub reply_in : List ℕ → Option Reply
reply_in text = data_of text >>= λ d. reply_of d >>= λ reply. if_text text reply

-- ---- forms

-- a 64-bit number
abbrev pub IsWide : ℕ → Type 0
IsWide n = n ≤ 18_446_744_073_709_551_615

-- A refusal whose fields have their forms. Numbers are within their types, texts are UTF-8, phases are as rows store
-- them, and moments can be printed.
abbrev pub RefusalHasForms : Refusal → Type 0
RefusalHasForms UnknownActor = Unit {0}
RefusalHasForms WrongKey = Unit {0}
RefusalHasForms NotYourRole = Unit {0}
RefusalHasForms (NumberReused kept) = IsWide kept
RefusalHasForms (BadReport group what) = IsAmount group
RefusalHasForms (DayOutOfReach group) = IsAmount group
RefusalHasForms (ReportsFull held) = IsWide held
RefusalHasForms UnknownTail = Unit {0}
RefusalHasForms NoSuchDeferral = Unit {0}
RefusalHasForms NoSuchRelease = Unit {0}
RefusalHasForms (NotYours holder) = IsUtf8 holder
RefusalHasForms (BadPlan leg what) = IsAmount leg
RefusalHasForms (NotPending stage) = stage ≤ 255
RefusalHasForms (WrongRevision current) = IsWide current
RefusalHasForms (WrongText digest) = IsDigest digest
RefusalHasForms (WeatherNewer report) = IsWide report
RefusalHasForms (RuleFails findings) = AllByRecursion IsSaidFinding findings
RefusalHasForms (WrongPhase phase) = IsPhase phase
RefusalHasForms AlreadySigned = Unit {0}
RefusalHasForms NoSuchAlert = Unit {0}
RefusalHasForms (AlertMoved version) = IsWide version
RefusalHasForms (TooYoung until) = CanBeShown until
RefusalHasForms (ReleasesFull held) = IsWide held
RefusalHasForms (HistoryFull entries kept events) = IsWide entries × IsWide kept × IsWide events
RefusalHasForms NoSuchStation = Unit {0}
RefusalHasForms (Unkept faults) = IsWide faults
RefusalHasForms (NumberSwept floor) = IsWide floor
RefusalHasForms UnknownItem = Unit {0}
RefusalHasForms (BadFound moment) = CanBeShown moment
RefusalHasForms (DeferralsFull held) = IsWide held

-- a reply whose fields have their forms
abbrev pub ReplyHasForms : Reply → Type 0
ReplyHasForms (Done done) = SaidDoneHasForms done
ReplyHasForms (Seen text) = IsUtf8 text
ReplyHasForms (Refused refusal) = RefusalHasForms refusal

-- ---- results of readers

-- the reply, or the fault that the text isn't one
abbrev pub or_fault : Option Reply → Result Reply BadCall
or_fault None = Err (bad NotJson [])
or_fault (Some reply) = Ok reply

-- The reader returns the reply that a text represents, the fault that it isn't one, or out of memory.
abbrev pub AnswersReply : Option Reply → Result Reply CallFault → Type 0
AnswersReply o r = Answers (or_fault o) r

-- this is the text of the reply, whose fields have their forms
pub record IsReplyOf (text : List ℕ) (reply : Reply) : Type 0 where
  pub forms : ReplyHasForms reply
  pub same : reply_text reply ≡ text

-- Each reply whose fields have their forms is read back from its text.
abbrev pub IsReplyAgain : List ℕ → Result Reply CallFault → Type 0
IsReplyAgain text read = (reply : Reply) → IsReplyOf text reply → Gives reply read

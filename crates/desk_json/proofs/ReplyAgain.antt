-- A reply of good form is read again of its text.
use Rattle.std.proofs.Common.{◌≡◌, ℕ, ◌^◌, ◌<◌, ◌≤◌, if◌then◌else◌, List, length, Option, None, Some, IfSome, IfOk, Result, Ok, Err, IsUtf8, refl, sym, ap, ◌∙◌, subst, arith, eq-eqb}
use Rattle.std.specs.Str.{bytes_eq}
use Rattle.std.specs.Str.Lossy.{utf8_lossy}
use Rattle.std.proofs.lemmas.Slice.Eq.{bytes_eq-Decides}
use Rattle.std.proofs.lemmas.Str.{utf8_lossy-IsUtf8, utf8_valid_len-IsUtf8}
use Rattle.json.proofs.Printed.Utf8.{IsUtf8-are_ascii}
use Rattle.serde_json.specs.Data.{Data, depth}
use Rattle.serde_json.specs.Read.{max_depth}
use Rattle.serde_json.specs.Written.{compact_text}
use Rattle.desk_time.specs.Digits.{◌>>=◌}
use Rattle.desk_time.specs.Moments.{shown, shown_of, up_to}
use Rattle.desk_time.proofs.MomentLaws.{shown_again}
use Rattle.codes.specs.declared.fault.Why.{Why}
use Rattle.codes.specs.declared.fault.Why.TheVariants as why
use Rattle.plan.specs.Texts.{finding_text, phase_text}
use Rattle.plan.specs.declared.check.PlanWhy.{PlanWhy}
use Rattle.plan.specs.declared.check.PlanWhy.TheVariants as plan_why
use Rattle.plan.specs.declared.findings.Finding.{Finding}
use Rattle.asks.specs.Ranges.{CanBeShown}
use Rattle.asks.specs.declared.reply.Reply.{Reply}
use Rattle.asks.specs.declared.reply.Reply.TheVariants.{Done, Seen, Refused}
use Rattle.asks.specs.declared.reply.Refusal.{Refusal}
use Rattle.asks.specs.declared.reply.Refusal.TheVariants.{UnknownActor, WrongKey, NotYourRole, NumberReused, BadReport, DayOutOfReach, ReportsFull, UnknownTail, NoSuchDeferral, NoSuchRelease, NotYours, BadPlan, NotPending, WrongRevision, WrongText, WeatherNewer, RuleFails, WrongPhase, AlreadySigned, NoSuchAlert, AlertMoved, TooYoung, ReleasesFull, HistoryFull, NoSuchStation, Unkept, NumberSwept, UnknownItem, BadFound, DeferralsFull}
use Rattle.asks.specs.Forms.{IsSaidFinding}
use Rattle.asks.specs.Fields.{data_of}
use Rattle.asks.specs.Plain.{IsPlain, HasText}
use Rattle.asks.proofs.Again.{small_again, amount_again, each_again, done_again}
use Rattle.desk_time.proofs.Chains.{bind_any, under}
use Rattle.asks.proofs.Compact.{read_compact, utf8_compact}
use Rattle.asks.proofs.DigestLaws.{digest_again}
use Rattle.asks.proofs.Plain.{order_of, text_of, list_plain, list_has_text, list_depth, done_plain, done_has_text, done_depth, amount_plain}
use Rattle.asks.proofs.Texts.{written_utf8, moment_utf8, digest_utf8}
use Rattle.release_json.proofs.FindingLaws.{finding_again, finding_utf8}
use Rattle.release_json.proofs.ReleaseLaws.{phase_text_again}
use Rattle.desk_json.specs.Replies.{why_name, plan_why_name, with_fields, refusal_members, refusal_data, reply_data, reply_text}
use Rattle.desk_json.specs.ReadReplies.{why_of, plan_why_of, finding_in, reply_of, if_text, reply_in, IsWide, RefusalHasForms, ReplyHasForms, or_fault, AnswersReply, IsReplyOf, IsReplyAgain}
use Rattle.desk_json.specs.declared.bad_call.CallFault.{CallFault}
use Rattle.desk_json.specs.declared.bad_call.CallFault.TheVariants as fault
use Rattle.desk_json.proofs.Results.{gives}
use Rattle.desk_io.proofs.Bytes.{equal_bytes}
use Rattle.release_json.specs.Findings.{finding_data}

-- ---- fields

why_again : (w : Why) → why_of (why_name w) ≡ Some w
why_again why.TooLong = refl
why_again why.Missing = refl
why_again why.NotStation = refl
why_again why.NotTime = refl
why_again why.DayOutOfReach = refl
why_again why.BadVisibility = refl
why_again why.BadSky = refl
why_again why.BadPeriod = refl

plan_why_again : (w : PlanWhy) → plan_why_of (plan_why_name w) ≡ Some w
plan_why_again plan_why.UnknownTail = refl
plan_why_again plan_why.UnknownCaptain = refl
plan_why_again plan_why.Count = refl
plan_why_again plan_why.NoAirport = refl
plan_why_again plan_why.Repeated = refl
plan_why_again plan_why.Unjoined = refl
plan_why_again plan_why.Times = refl
plan_why_again plan_why.Amount = refl
plan_why_again plan_why.Changed = refl
plan_why_again plan_why.Flown = refl

why_utf8 : (w : Why) → IsUtf8 (why_name w)
why_utf8 why.TooLong = IsUtf8-are_ascii _ refl
why_utf8 why.Missing = IsUtf8-are_ascii _ refl
why_utf8 why.NotStation = IsUtf8-are_ascii _ refl
why_utf8 why.NotTime = IsUtf8-are_ascii _ refl
why_utf8 why.DayOutOfReach = IsUtf8-are_ascii _ refl
why_utf8 why.BadVisibility = IsUtf8-are_ascii _ refl
why_utf8 why.BadSky = IsUtf8-are_ascii _ refl
why_utf8 why.BadPeriod = IsUtf8-are_ascii _ refl

plan_why_utf8 : (w : PlanWhy) → IsUtf8 (plan_why_name w)
plan_why_utf8 plan_why.UnknownTail = IsUtf8-are_ascii _ refl
plan_why_utf8 plan_why.UnknownCaptain = IsUtf8-are_ascii _ refl
plan_why_utf8 plan_why.Count = IsUtf8-are_ascii _ refl
plan_why_utf8 plan_why.NoAirport = IsUtf8-are_ascii _ refl
plan_why_utf8 plan_why.Repeated = IsUtf8-are_ascii _ refl
plan_why_utf8 plan_why.Unjoined = IsUtf8-are_ascii _ refl
plan_why_utf8 plan_why.Times = IsUtf8-are_ascii _ refl
plan_why_utf8 plan_why.Amount = IsUtf8-are_ascii _ refl
plan_why_utf8 plan_why.Changed = IsUtf8-are_ascii _ refl
plan_why_utf8 plan_why.Flown = IsUtf8-are_ascii _ refl

wide_again : (n : ℕ) → IsWide n → up_to 18_446_744_073_709_551_615 n ≡ Some n
wide_again n few = small_again n 18_446_744_073_709_551_615 few

moment_again : (m : ℕ) → CanBeShown m → shown_of (utf8_lossy (shown m)) ≡ Some m
moment_again m is = ap shown_of (utf8_lossy-IsUtf8 (shown m) (moment_utf8 m is.1)) ∙ shown_again m is.0 is.1

item_again : (f : Finding) → IsSaidFinding f → finding_in (finding_data f) ≡ Some f
item_again f is = rw (utf8_lossy-IsUtf8 (finding_text f) (finding_utf8 18_446_744_073_709_551_615 f (omega arith) is)) (finding_again 18_446_744_073_709_551_615 f (omega arith) is)

-- ---- the JSON that is written is read

refusal_again : (r : Refusal) → RefusalHasForms r → reply_of (refusal_data r) ≡ Some (Refused r)
refusal_again UnknownActor is = refl
refusal_again WrongKey is = refl
refusal_again NotYourRole is = refl
refusal_again (NumberReused kept) is = rw (wide_again kept is) refl
refusal_again (BadReport group what) is = rw (amount_again group is, why_again what) refl
refusal_again (DayOutOfReach group) is = rw (amount_again group is) refl
refusal_again (ReportsFull held) is = rw (wide_again held is) refl
refusal_again UnknownTail is = refl
refusal_again NoSuchDeferral is = refl
refusal_again NoSuchRelease is = refl
refusal_again (NotYours holder) is = rw (utf8_lossy-IsUtf8 holder is) refl
refusal_again (BadPlan leg what) is = rw (amount_again leg is, plan_why_again what) refl
refusal_again (NotPending stage) is = rw (small_again stage 255 is) refl
refusal_again (WrongRevision current) is = rw (wide_again current is) refl
refusal_again (WrongText digest) is = rw (digest_again digest is) refl
refusal_again (WeatherNewer report) is = rw (wide_again report is) refl
refusal_again (RuleFails findings) is = rw (each_again IsSaidFinding finding_in finding_data item_again findings is) refl
refusal_again (WrongPhase phase) is = rw (phase_text_again phase is) refl
refusal_again AlreadySigned is = refl
refusal_again NoSuchAlert is = refl
refusal_again (AlertMoved version) is = rw (wide_again version is) refl
refusal_again (TooYoung until) is = rw (moment_again until is) refl
refusal_again (ReleasesFull held) is = rw (wide_again held is) refl
refusal_again (HistoryFull entries kept events) is = rw (wide_again entries is.0, wide_again kept is.1, wide_again events is.2) refl
refusal_again NoSuchStation is = refl
refusal_again (Unkept faults) is = rw (wide_again faults is) refl
refusal_again (NumberSwept floor) is = rw (wide_again floor is) refl
refusal_again UnknownItem is = refl
refusal_again (BadFound moment) is = rw (moment_again moment is) refl
refusal_again (DeferralsFull held) is = rw (wide_again held is) refl

reply_again : (r : Reply) → ReplyHasForms r → reply_of (reply_data r) ≡ Some r
reply_again (Done done) is = rw (done_again _ _ done is) refl
reply_again (Seen text) is = rw (utf8_lossy-IsUtf8 text is) refl
reply_again (Refused refusal) is = refusal_again refusal is

-- ---- it is plain data, all of it text

wide_plain : (n : ℕ) → IsWide n → n < 2 ^ 64
wide_plain n few = omega arith

pub small_plain : (n : ℕ) → n ≤ 255 → n < 2 ^ 64
small_plain n few = omega arith

refusal_plain : (r : Refusal) → RefusalHasForms r → IsPlain (refusal_data r)
refusal_plain UnknownActor is = (order_of (with_fields UnknownActor (refusal_members UnknownActor)) refl, (small_plain 1 (omega arith), (tt, tt)))
refusal_plain WrongKey is = (order_of (with_fields WrongKey (refusal_members WrongKey)) refl, (small_plain 2 (omega arith), (tt, tt)))
refusal_plain NotYourRole is = (order_of (with_fields NotYourRole (refusal_members NotYourRole)) refl, (small_plain 3 (omega arith), (tt, tt)))
refusal_plain (NumberReused kept) is = (order_of (with_fields (NumberReused kept) (refusal_members (NumberReused kept))) refl, (wide_plain kept is, (small_plain 4 (omega arith), (tt, tt))))
refusal_plain (BadReport group what) is = (order_of (with_fields (BadReport group what) (refusal_members (BadReport group what))) refl, (amount_plain group is, (small_plain 5 (omega arith), (tt, (tt, tt)))))
refusal_plain (DayOutOfReach group) is = (order_of (with_fields (DayOutOfReach group) (refusal_members (DayOutOfReach group))) refl, (amount_plain group is, (small_plain 6 (omega arith), (tt, tt))))
refusal_plain (ReportsFull held) is = (order_of (with_fields (ReportsFull held) (refusal_members (ReportsFull held))) refl, (wide_plain held is, (small_plain 7 (omega arith), (tt, tt))))
refusal_plain UnknownTail is = (order_of (with_fields UnknownTail (refusal_members UnknownTail)) refl, (small_plain 8 (omega arith), (tt, tt)))
refusal_plain NoSuchDeferral is = (order_of (with_fields NoSuchDeferral (refusal_members NoSuchDeferral)) refl, (small_plain 9 (omega arith), (tt, tt)))
refusal_plain NoSuchRelease is = (order_of (with_fields NoSuchRelease (refusal_members NoSuchRelease)) refl, (small_plain 10 (omega arith), (tt, tt)))
refusal_plain (NotYours holder) is = (order_of (with_fields (NotYours holder) (refusal_members (NotYours holder))) refl, (tt, (small_plain 11 (omega arith), (tt, tt))))
refusal_plain (BadPlan leg what) is = (order_of (with_fields (BadPlan leg what) (refusal_members (BadPlan leg what))) refl, (amount_plain leg is, (small_plain 12 (omega arith), (tt, (tt, tt)))))
refusal_plain (NotPending stage) is = (order_of (with_fields (NotPending stage) (refusal_members (NotPending stage))) refl, (small_plain 13 (omega arith), (small_plain stage is, (tt, tt))))
refusal_plain (WrongRevision current) is = (order_of (with_fields (WrongRevision current) (refusal_members (WrongRevision current))) refl, (wide_plain current is, (small_plain 14 (omega arith), (tt, tt))))
refusal_plain (WrongText digest) is = (order_of (with_fields (WrongText digest) (refusal_members (WrongText digest))) refl, (tt, (small_plain 15 (omega arith), (tt, tt))))
refusal_plain (WeatherNewer report) is = (order_of (with_fields (WeatherNewer report) (refusal_members (WeatherNewer report))) refl, (small_plain 16 (omega arith), (wide_plain report is, (tt, tt))))
refusal_plain (RuleFails findings) is = (order_of (with_fields (RuleFails findings) (refusal_members (RuleFails findings))) refl, (list_plain IsSaidFinding finding_data (λ f has. tt) findings is, (small_plain 17 (omega arith), (tt, tt))))
refusal_plain (WrongPhase phase) is = (order_of (with_fields (WrongPhase phase) (refusal_members (WrongPhase phase))) refl, (tt, (small_plain 18 (omega arith), (tt, tt))))
refusal_plain AlreadySigned is = (order_of (with_fields AlreadySigned (refusal_members AlreadySigned)) refl, (small_plain 19 (omega arith), (tt, tt)))
refusal_plain NoSuchAlert is = (order_of (with_fields NoSuchAlert (refusal_members NoSuchAlert)) refl, (small_plain 20 (omega arith), (tt, tt)))
refusal_plain (AlertMoved version) is = (order_of (with_fields (AlertMoved version) (refusal_members (AlertMoved version))) refl, (small_plain 21 (omega arith), (wide_plain version is, (tt, tt))))
refusal_plain (TooYoung until) is = (order_of (with_fields (TooYoung until) (refusal_members (TooYoung until))) refl, (small_plain 22 (omega arith), (tt, (tt, tt))))
refusal_plain (ReleasesFull held) is = (order_of (with_fields (ReleasesFull held) (refusal_members (ReleasesFull held))) refl, (wide_plain held is, (small_plain 23 (omega arith), (tt, tt))))
refusal_plain (HistoryFull entries kept events) is = (order_of (with_fields (HistoryFull entries kept events) (refusal_members (HistoryFull entries kept events))) refl, (wide_plain entries is.0, (wide_plain events is.2, (wide_plain kept is.1, (small_plain 24 (omega arith), (tt, tt))))))
refusal_plain NoSuchStation is = (order_of (with_fields NoSuchStation (refusal_members NoSuchStation)) refl, (small_plain 25 (omega arith), (tt, tt)))
refusal_plain (Unkept faults) is = (order_of (with_fields (Unkept faults) (refusal_members (Unkept faults))) refl, (wide_plain faults is, (small_plain 26 (omega arith), (tt, tt))))
refusal_plain (NumberSwept floor) is = (order_of (with_fields (NumberSwept floor) (refusal_members (NumberSwept floor))) refl, (wide_plain floor is, (small_plain 27 (omega arith), (tt, tt))))
refusal_plain UnknownItem is = (order_of (with_fields UnknownItem (refusal_members UnknownItem)) refl, (small_plain 28 (omega arith), (tt, tt)))
refusal_plain (BadFound moment) is = (order_of (with_fields (BadFound moment) (refusal_members (BadFound moment))) refl, (tt, (small_plain 29 (omega arith), (tt, tt))))
refusal_plain (DeferralsFull held) is = (order_of (with_fields (DeferralsFull held) (refusal_members (DeferralsFull held))) refl, (wide_plain held is, (small_plain 30 (omega arith), (tt, tt))))

refusal_has_text : (r : Refusal) → RefusalHasForms r → HasText (refusal_data r)
refusal_has_text UnknownActor is = text_of (with_fields UnknownActor (refusal_members UnknownActor)) refl (tt, (IsUtf8-are_ascii _ refl, tt))
refusal_has_text WrongKey is = text_of (with_fields WrongKey (refusal_members WrongKey)) refl (tt, (IsUtf8-are_ascii _ refl, tt))
refusal_has_text NotYourRole is = text_of (with_fields NotYourRole (refusal_members NotYourRole)) refl (tt, (IsUtf8-are_ascii _ refl, tt))
refusal_has_text (NumberReused kept) is = text_of (with_fields (NumberReused kept) (refusal_members (NumberReused kept))) refl (tt, (tt, (IsUtf8-are_ascii _ refl, tt)))
refusal_has_text (BadReport group what) is = text_of (with_fields (BadReport group what) (refusal_members (BadReport group what))) refl (tt, (tt, (why_utf8 what, (IsUtf8-are_ascii _ refl, tt))))
refusal_has_text (DayOutOfReach group) is = text_of (with_fields (DayOutOfReach group) (refusal_members (DayOutOfReach group))) refl (tt, (tt, (IsUtf8-are_ascii _ refl, tt)))
refusal_has_text (ReportsFull held) is = text_of (with_fields (ReportsFull held) (refusal_members (ReportsFull held))) refl (tt, (tt, (IsUtf8-are_ascii _ refl, tt)))
refusal_has_text UnknownTail is = text_of (with_fields UnknownTail (refusal_members UnknownTail)) refl (tt, (IsUtf8-are_ascii _ refl, tt))
refusal_has_text NoSuchDeferral is = text_of (with_fields NoSuchDeferral (refusal_members NoSuchDeferral)) refl (tt, (IsUtf8-are_ascii _ refl, tt))
refusal_has_text NoSuchRelease is = text_of (with_fields NoSuchRelease (refusal_members NoSuchRelease)) refl (tt, (IsUtf8-are_ascii _ refl, tt))
refusal_has_text (NotYours holder) is = text_of (with_fields (NotYours holder) (refusal_members (NotYours holder))) refl (written_utf8 holder, (tt, (IsUtf8-are_ascii _ refl, tt)))
refusal_has_text (BadPlan leg what) is = text_of (with_fields (BadPlan leg what) (refusal_members (BadPlan leg what))) refl (tt, (tt, (plan_why_utf8 what, (IsUtf8-are_ascii _ refl, tt))))
refusal_has_text (NotPending stage) is = text_of (with_fields (NotPending stage) (refusal_members (NotPending stage))) refl (tt, (tt, (IsUtf8-are_ascii _ refl, tt)))
refusal_has_text (WrongRevision current) is = text_of (with_fields (WrongRevision current) (refusal_members (WrongRevision current))) refl (tt, (tt, (IsUtf8-are_ascii _ refl, tt)))
refusal_has_text (WrongText digest) is = text_of (with_fields (WrongText digest) (refusal_members (WrongText digest))) refl (digest_utf8 digest is, (tt, (IsUtf8-are_ascii _ refl, tt)))
refusal_has_text (WeatherNewer report) is = text_of (with_fields (WeatherNewer report) (refusal_members (WeatherNewer report))) refl (tt, (tt, (IsUtf8-are_ascii _ refl, tt)))
refusal_has_text (RuleFails findings) is = text_of (with_fields (RuleFails findings) (refusal_members (RuleFails findings))) refl (list_has_text finding_data (λ f. written_utf8 (finding_text f)) findings, (tt, (IsUtf8-are_ascii _ refl, tt)))
refusal_has_text (WrongPhase phase) is = text_of (with_fields (WrongPhase phase) (refusal_members (WrongPhase phase))) refl (written_utf8 (phase_text phase), (tt, (IsUtf8-are_ascii _ refl, tt)))
refusal_has_text AlreadySigned is = text_of (with_fields AlreadySigned (refusal_members AlreadySigned)) refl (tt, (IsUtf8-are_ascii _ refl, tt))
refusal_has_text NoSuchAlert is = text_of (with_fields NoSuchAlert (refusal_members NoSuchAlert)) refl (tt, (IsUtf8-are_ascii _ refl, tt))
refusal_has_text (AlertMoved version) is = text_of (with_fields (AlertMoved version) (refusal_members (AlertMoved version))) refl (tt, (tt, (IsUtf8-are_ascii _ refl, tt)))
refusal_has_text (TooYoung until) is = text_of (with_fields (TooYoung until) (refusal_members (TooYoung until))) refl (tt, (written_utf8 (shown until), (IsUtf8-are_ascii _ refl, tt)))
refusal_has_text (ReleasesFull held) is = text_of (with_fields (ReleasesFull held) (refusal_members (ReleasesFull held))) refl (tt, (tt, (IsUtf8-are_ascii _ refl, tt)))
refusal_has_text (HistoryFull entries kept events) is = text_of (with_fields (HistoryFull entries kept events) (refusal_members (HistoryFull entries kept events))) refl (tt, (tt, (tt, (tt, (IsUtf8-are_ascii _ refl, tt)))))
refusal_has_text NoSuchStation is = text_of (with_fields NoSuchStation (refusal_members NoSuchStation)) refl (tt, (IsUtf8-are_ascii _ refl, tt))
refusal_has_text (Unkept faults) is = text_of (with_fields (Unkept faults) (refusal_members (Unkept faults))) refl (tt, (tt, (IsUtf8-are_ascii _ refl, tt)))
refusal_has_text (NumberSwept floor) is = text_of (with_fields (NumberSwept floor) (refusal_members (NumberSwept floor))) refl (tt, (tt, (IsUtf8-are_ascii _ refl, tt)))
refusal_has_text UnknownItem is = text_of (with_fields UnknownItem (refusal_members UnknownItem)) refl (tt, (IsUtf8-are_ascii _ refl, tt))
refusal_has_text (BadFound moment) is = text_of (with_fields (BadFound moment) (refusal_members (BadFound moment))) refl (written_utf8 (shown moment), (tt, (IsUtf8-are_ascii _ refl, tt)))
refusal_has_text (DeferralsFull held) is = text_of (with_fields (DeferralsFull held) (refusal_members (DeferralsFull held))) refl (tt, (tt, (IsUtf8-are_ascii _ refl, tt)))

refusal_depth : (r : Refusal) → depth (refusal_data r) ≤ 2
refusal_depth UnknownActor = omega arith
refusal_depth WrongKey = omega arith
refusal_depth NotYourRole = omega arith
refusal_depth (NumberReused kept) = omega arith
refusal_depth (BadReport group what) = omega arith
refusal_depth (DayOutOfReach group) = omega arith
refusal_depth (ReportsFull held) = omega arith
refusal_depth UnknownTail = omega arith
refusal_depth NoSuchDeferral = omega arith
refusal_depth NoSuchRelease = omega arith
refusal_depth (NotYours holder) = omega arith
refusal_depth (BadPlan leg what) = omega arith
refusal_depth (NotPending stage) = omega arith
refusal_depth (WrongRevision current) = omega arith
refusal_depth (WrongText digest) = omega arith
refusal_depth (WeatherNewer report) = omega arith
refusal_depth (RuleFails findings) = let each = list_depth finding_data 0 (λ f. omega arith) findings in omega (arith, each)
refusal_depth (WrongPhase phase) = omega arith
refusal_depth AlreadySigned = omega arith
refusal_depth NoSuchAlert = omega arith
refusal_depth (AlertMoved version) = omega arith
refusal_depth (TooYoung until) = omega arith
refusal_depth (ReleasesFull held) = omega arith
refusal_depth (HistoryFull entries kept events) = omega arith
refusal_depth NoSuchStation = omega arith
refusal_depth (Unkept faults) = omega arith
refusal_depth (NumberSwept floor) = omega arith
refusal_depth UnknownItem = omega arith
refusal_depth (BadFound moment) = omega arith
refusal_depth (DeferralsFull held) = omega arith

reply_plain : (r : Reply) → ReplyHasForms r → IsPlain (reply_data r)
reply_plain (Done done) is = ((tt, tt), (done_plain done is, tt))
reply_plain (Seen text) is = ((tt, tt), (tt, tt))
reply_plain (Refused refusal) is = refusal_plain refusal is

reply_has_text : (r : Reply) → ReplyHasForms r → HasText (reply_data r)
reply_has_text (Done done) is = (IsUtf8-are_ascii _ refl, done_has_text done is, tt)
reply_has_text (Seen text) is = (IsUtf8-are_ascii _ refl, written_utf8 text, tt)
reply_has_text (Refused refusal) is = refusal_has_text refusal is

reply_depth : (r : Reply) → depth (reply_data r) ≤ 2
reply_depth (Done done) = omega (arith, done_depth done)
reply_depth (Seen text) = omega arith
reply_depth (Refused refusal) = refusal_depth refusal

-- ---- texts

pub data_again : (d : Data) → IsPlain d → HasText d → depth d ≤ max_depth → data_of (compact_text d) ≡ Some d
data_again d plain has shallow =
    rw (utf8_valid_len-IsUtf8 (compact_text d) (utf8_compact d plain has), eq-eqb (length (compact_text d)) (length (compact_text d)) refl) (read_compact d plain shallow)

its_text : (r : Reply) → ReplyHasForms r → reply_in (reply_text r) ≡ Some r
unfolding reply_in reply_text
its_text r is =
    let t = compact_text (reply_data r) in
    ap (λ o. o >>= λ d. reply_of d >>= λ reply. if_text t reply) (data_again (reply_data r) (reply_plain r is) (reply_has_text r is) (omega (arith, reply_depth r)))
    ∙ ap (λ o. o >>= λ reply. if_text t reply) (reply_again r is)
    ∙ ap (λ b. if b then Some r else None) (equal_bytes t)

-- a reply of good form is read of its text
pub text_again : (text : List ℕ) (r : Reply) → IsReplyOf text r → reply_in text ≡ Some r
text_again text r is = ap reply_in (sym is.same) ∙ its_text r is.forms

-- what is read has that text
text_back : (text : List ℕ) → IfSome (reply_in text) (λ r. reply_text r ≡ text)
unfolding reply_in
text_back text =
    let Q : Reply → Type 0 = λ r. reply_text r ≡ text in
    bind_any (data_of text) _ Q (λ d. bind_any (reply_of d) _ Q (λ r. under (bytes_eq (reply_text r) text) (Some r) Q (λ is. (bytes_eq-Decides (reply_text r) text).0 is)))

-- ---- answers

pub replies_again : (text : List ℕ) (read : Result Reply CallFault) → AnswersReply (reply_in text) read → IsReplyAgain text read
replies_again text read is = λ r of. gives r (or_fault (reply_in text)) read (ap or_fault (text_again text r of)) is

found_reply : (o : Option Reply) (r : Reply) → or_fault o ≡ Ok r → o ≡ Some r
found_reply None r is = absurd (cc is)
found_reply (Some q) r is = cc is

reply_exact : (text : List ℕ) (r : Reply) → reply_in text ≡ Some r → ReplyHasForms r → IsReplyOf text r
reply_exact text r is forms = record { forms = forms; same = subst (λ (o : Option Reply). IfSome o (λ q. reply_text q ≡ text)) is (text_back text) }

pub replies_exact : (text : List ℕ) (read : Result Reply CallFault) → AnswersReply (reply_in text) read → IfOk read ReplyHasForms → IfOk read (IsReplyOf text)
replies_exact text (Ok r) is forms = reply_exact text r (found_reply (reply_in text) r is) forms
replies_exact text (Err (fault.Bad b)) is forms = tt
replies_exact text (Err fault.OutOfMemory) is forms = tt

-- No reply has a number with a fraction, so its text is the one that is written.
use Rattle.std.proofs.Common.{◌≡◌, false, refl, ap, ◌∙◌}
use Rattle.serde_json.specs.Data.{Data}
use Rattle.serde_json.specs.Written.{has_float}
use Rattle.plan.specs.declared.findings.Finding.{Finding}
use Rattle.asks.specs.declared.reply.Reply.{Reply}
use Rattle.asks.specs.declared.reply.Reply.TheVariants.{Done, Seen, Refused}
use Rattle.asks.specs.declared.reply.Refusal.{Refusal}
use Rattle.asks.specs.declared.reply.Refusal.TheVariants.{UnknownActor, WrongKey, NotYourRole, NumberReused, BadReport, DayOutOfReach, ReportsFull, UnknownTail, NoSuchDeferral, NoSuchRelease, NotYours, BadPlan, NotPending, WrongRevision, WrongText, WeatherNewer, RuleFails, WrongPhase, AlreadySigned, NoSuchAlert, AlertMoved, TooYoung, ReleasesFull, HistoryFull, NoSuchStation, Unkept, NumberSwept, UnknownItem, BadFound, DeferralsFull}
use Rattle.asks.specs.declared.bad_call.BadCall.{BadCall}
use Rattle.asks.specs.declared.call.Call.{Call}
use Rattle.asks.proofs.Whole.{list_whole, done_whole, ask_whole}
use Rattle.desk_json.specs.Canonical.{call_data}
use Rattle.desk_json.specs.Replies.{refusal_data, reply_data, bad_data}
use Rattle.release_json.specs.Findings.{finding_data}

pub finding_whole : (f : Finding) → has_float (finding_data f) ≡ false
finding_whole f = refl

refusal_whole : (r : Refusal) → has_float (refusal_data r) ≡ false
refusal_whole UnknownActor = refl
refusal_whole WrongKey = refl
refusal_whole NotYourRole = refl
refusal_whole (NumberReused kept) = refl
refusal_whole (BadReport group what) = refl
refusal_whole (DayOutOfReach group) = refl
refusal_whole (ReportsFull held) = refl
refusal_whole UnknownTail = refl
refusal_whole NoSuchDeferral = refl
refusal_whole NoSuchRelease = refl
refusal_whole (NotYours holder) = refl
refusal_whole (BadPlan leg what) = refl
refusal_whole (NotPending stage) = refl
refusal_whole (WrongRevision current) = refl
refusal_whole (WrongText digest) = refl
refusal_whole (WeatherNewer report) = refl
refusal_whole (RuleFails findings) = rw (list_whole finding_data finding_whole findings) refl
refusal_whole (WrongPhase phase) = refl
refusal_whole AlreadySigned = refl
refusal_whole NoSuchAlert = refl
refusal_whole (AlertMoved version) = refl
refusal_whole (TooYoung until) = refl
refusal_whole (ReleasesFull held) = refl
refusal_whole (HistoryFull entries kept events) = refl
refusal_whole NoSuchStation = refl
refusal_whole (Unkept faults) = refl
refusal_whole (NumberSwept floor) = refl
refusal_whole UnknownItem = refl
refusal_whole (BadFound moment) = refl
refusal_whole (DeferralsFull held) = refl

whole : (r : Reply) → has_float (reply_data r) ≡ false
whole (Done done) = rw (done_whole done) refl
whole (Seen text) = refl
whole (Refused refusal) = refusal_whole refusal

-- no data of a reply has one
pub reply_whole : (r : Reply) (d : Data) → d ≡ reply_data r → has_float d ≡ false
reply_whole r d is = ap has_float is ∙ whole r

-- nor has any of a call
pub call_whole : (c : Call) (d : Data) → d ≡ call_data c → has_float d ≡ false
call_whole c d is = ap has_float is ∙ rw (ask_whole c.ask) refl

-- nor has any of a fault
pub bad_whole : (b : BadCall) (d : Data) → d ≡ bad_data b → has_float d ≡ false
bad_whole b d is = ap has_float is ∙ refl

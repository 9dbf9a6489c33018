-- Which HTTP status goes with a reply or with a fault (RFC 9110, section 15).
use Rattle.std.specs.Prelude.{ℕ}
use Rattle.asks.specs.declared.reply.Refusal.{Refusal}
use Rattle.asks.specs.declared.reply.Refusal.TheVariants.{UnknownActor, WrongKey, NotYourRole, NumberReused, BadReport, DayOutOfReach, ReportsFull, UnknownTail, NoSuchDeferral, NoSuchRelease, NotYours, BadPlan, NotPending, WrongRevision, WrongText, WeatherNewer, RuleFails, WrongPhase, AlreadySigned, NoSuchAlert, AlertMoved, TooYoung, ReleasesFull, HistoryFull, NoSuchStation, Unkept, NumberSwept, UnknownItem, BadFound, DeferralsFull}
use Rattle.asks.specs.declared.reply.Reply.{Reply}
use Rattle.asks.specs.declared.reply.Reply.TheVariants.{Done, Seen, Refused}
use Rattle.desk_state.specs.declared.lanes.Said.{Said}
use Rattle.desk_state.specs.declared.lanes.Said.TheVariants as said

-- The caller is unknown (401) or not allowed (403). The object doesn't exist (404), conflicts with the desk's state
-- (409), or is invalid (422). The keeper failed (503), or there is no room (507).
abbrev pub status_of_refusal : Refusal → ℕ
status_of_refusal UnknownActor = 401
status_of_refusal WrongKey = 401
status_of_refusal NotYourRole = 403
status_of_refusal (NumberReused kept) = 409
status_of_refusal (BadReport group what) = 422
status_of_refusal (DayOutOfReach group) = 422
status_of_refusal (ReportsFull held) = 507
status_of_refusal UnknownTail = 404
status_of_refusal NoSuchDeferral = 404
status_of_refusal NoSuchRelease = 404
status_of_refusal (NotYours holder) = 403
status_of_refusal (BadPlan leg what) = 422
status_of_refusal (NotPending stage) = 409
status_of_refusal (WrongRevision current) = 409
status_of_refusal (WrongText digest) = 409
status_of_refusal (WeatherNewer report) = 409
status_of_refusal (RuleFails findings) = 409
status_of_refusal (WrongPhase phase) = 409
status_of_refusal AlreadySigned = 409
status_of_refusal NoSuchAlert = 404
status_of_refusal (AlertMoved version) = 409
status_of_refusal (TooYoung until) = 409
status_of_refusal (ReleasesFull held) = 507
status_of_refusal (HistoryFull entries kept events) = 507
status_of_refusal NoSuchStation = 404
status_of_refusal (Unkept faults) = 503
status_of_refusal (NumberSwept floor) = 409
status_of_refusal UnknownItem = 404
status_of_refusal (BadFound moment) = 422
status_of_refusal (DeferralsFull held) = 507

abbrev pub status_of_reply : Reply → ℕ
status_of_reply (Done done) = 200
status_of_reply (Seen text) = 200
status_of_reply (Refused refusal) = status_of_refusal refusal

abbrev pub status_of : Said → ℕ
status_of (said.Reply reply) = status_of_reply reply
status_of (said.Bad fault) = 400

-- Bounds that hold of every request, and moments of replies that can be written.
use Rattle.std.specs.Prelude.{ℕ, ◌≤◌}
use Rattle.plan.specs.Check.{IsPlan}
use Rattle.plan.specs.Texts.{HasMoment}
use Rattle.desk_time.specs.Limits.{IsMoment}
use Rattle.asks.specs.declared.call.Ask.{Ask}
use Rattle.asks.specs.declared.call.Ask.TheVariants as ask
use Rattle.asks.specs.declared.reply.Reply.{Reply}
use Rattle.asks.specs.declared.reply.Reply.TheVariants.{Done, Seen, Refused}
use Rattle.asks.specs.declared.reply.Refusal.{Refusal}
use Rattle.asks.specs.declared.reply.Refusal.TheVariants.{UnknownActor, WrongKey, NotYourRole, NumberReused, BadReport, DayOutOfReach, ReportsFull, UnknownTail, NoSuchDeferral, NoSuchRelease, NotYours, BadPlan, NotPending, WrongRevision, WrongText, WeatherNewer, RuleFails, WrongPhase, AlreadySigned, NoSuchAlert, AlertMoved, TooYoung, ReleasesFull, HistoryFull, NoSuchStation, Unkept, NumberSwept, UnknownItem, BadFound, DeferralsFull}

-- the plan of the ask has at most 1,000 legs, and its moments are within the range that the desk reads
abbrev pub IsCall : Ask → Type 0
IsCall (ask.Admit text) = Unit {0}
IsCall (ask.Defer tail item found) = IsMoment found
IsCall (ask.Clear deferral) = Unit {0}
IsCall (ask.Draft plan) = IsPlan plan
IsCall (ask.Prepare release) = Unit {0}
IsCall (ask.Sign release revision digest) = Unit {0}
IsCall (ask.Concur release revision digest) = Unit {0}
IsCall (ask.Amend release plan) = IsPlan plan
IsCall (ask.Cancel release) = Unit {0}
IsCall (ask.Depart release leg) = Unit {0}
IsCall (ask.Arrive release leg) = Unit {0}
IsCall (ask.Acknowledge release version) = Unit {0}
IsCall (ask.Purge release) = Unit {0}
IsCall (ask.Sweep before) = IsMoment before
IsCall ask.ViewBoard = Unit {0}
IsCall ask.ViewAlerts = Unit {0}
IsCall (ask.ViewRelease release) = Unit {0}
IsCall (ask.ViewWeather station) = Unit {0}
IsCall (ask.ViewDeferred tail) = Unit {0}

-- the moment can be written: it is at most some fourteen months after the last that the desk reads
abbrev pub CanBeShown : ℕ → Type 0
CanBeShown at = (15_778_080 ≤ at) × (at ≤ 69_000_000)

-- the moment in the refusal, if any, can be written
abbrev pub RefusalHasMoment : Refusal → Type 0
RefusalHasMoment UnknownActor = Unit {0}
RefusalHasMoment WrongKey = Unit {0}
RefusalHasMoment NotYourRole = Unit {0}
RefusalHasMoment (NumberReused kept) = Unit {0}
RefusalHasMoment (BadReport group what) = Unit {0}
RefusalHasMoment (DayOutOfReach group) = Unit {0}
RefusalHasMoment (ReportsFull held) = Unit {0}
RefusalHasMoment UnknownTail = Unit {0}
RefusalHasMoment NoSuchDeferral = Unit {0}
RefusalHasMoment NoSuchRelease = Unit {0}
RefusalHasMoment (NotYours holder) = Unit {0}
RefusalHasMoment (BadPlan leg what) = Unit {0}
RefusalHasMoment (NotPending stage) = Unit {0}
RefusalHasMoment (WrongRevision current) = Unit {0}
RefusalHasMoment (WrongText digest) = Unit {0}
RefusalHasMoment (WeatherNewer report) = Unit {0}
RefusalHasMoment (RuleFails findings) = Unit {0}
RefusalHasMoment (WrongPhase phase) = HasMoment phase
RefusalHasMoment AlreadySigned = Unit {0}
RefusalHasMoment NoSuchAlert = Unit {0}
RefusalHasMoment (AlertMoved version) = Unit {0}
RefusalHasMoment (TooYoung until) = CanBeShown until
RefusalHasMoment (ReleasesFull held) = Unit {0}
RefusalHasMoment (HistoryFull entries kept events) = Unit {0}
RefusalHasMoment NoSuchStation = Unit {0}
RefusalHasMoment (Unkept faults) = Unit {0}
RefusalHasMoment (NumberSwept floor) = Unit {0}
RefusalHasMoment UnknownItem = Unit {0}
RefusalHasMoment (BadFound moment) = CanBeShown moment
RefusalHasMoment (DeferralsFull held) = Unit {0}

abbrev pub ReplyHasMoment : Reply → Type 0
ReplyHasMoment (Done done) = Unit {0}
ReplyHasMoment (Seen text) = Unit {0}
ReplyHasMoment (Refused refusal) = RefusalHasMoment refusal

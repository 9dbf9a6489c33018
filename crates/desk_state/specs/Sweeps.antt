-- What a sweep must keep, and when it is accepted.
use Rattle.std.specs.Prelude.{◌≡◌, ◌≢◌, ℕ, ◌+◌, ◌<◌, ◌≤◌, ◌==◌, false, List, find, length, Option, Some, IfSome}
use Rattle.std.specs.List.{AllByRecursion}
use Rattle.asks.specs.declared.call.Ask.{Ask}
use Rattle.asks.specs.declared.call.Ask.TheVariants as ask
use Rattle.asks.specs.declared.call.Call.{Call}
use Rattle.asks.specs.declared.reply.Done.{Done as DoneType}
use Rattle.asks.specs.declared.reply.Reply.{Reply}
use Rattle.asks.specs.declared.reply.Reply.TheVariants.{Done}
use Rattle.facts.specs.declared.report.Report.{Report}
use Rattle.plan.specs.declared.release.Release.{Release}
use Rattle.plan.specs.declared.release.Revision.{Revision}
use Rattle.desk_state.specs.Allowed.{IsPermitted, IsUnused}
use Rattle.desk_state.specs.State.{State, is_sweep}

abbrev pub report_at : ℕ → List Report → Option Report
report_at id reports = find (λ r. r.id == id) reports

-- each stored report that a revision has attached is still stored
abbrev pub StayAttached : State → State → Revision → Type 0
StayAttached s t v = AllByRecursion (λ a. IfSome (report_at a.report s.reports) (λ r. report_at a.report t.reports ≡ Some r)) v.attached

-- each stored report that a pending or an active revision has attached is still stored
abbrev pub KeepsAttached : State → State → Type 0
KeepsAttached s t = AllByRecursion (λ (r : Release). IfSome r.pending (StayAttached s t) × IfSome r.active (StayAttached s t)) s.releases

-- a further event may come: there are fewer than 400,000 entries and 999,999,999,999,000 events
pub record MayGoOn (s : State) : Type 0 where
  pub entries : length s.entries < 400_000
  pub events : s.counters.events < 999_999_999_999_000

-- An ask may change something only while a further event may come. Except for a sweep, fewer than 400,000 replies
-- must be kept.
pub record ComesInTime (s : State) (a : Ask) : Type 0 where
  pub event : MayGoOn s
  pub kept : is_sweep a ≡ false → length s.kept < 400_000

-- The desk accepts a permitted sweep under an unused number, if its cut-off is at least three days ago and a further
-- event may come. It does so however many replies are kept.
abbrev pub CanSweep : State → Call → Option Reply → Type 0
CanSweep s call reply = (before : ℕ) → call.ask ≡ ask.Sweep before → IsPermitted s call → IsUnused s call → before + 4320 ≤ s.moment → MayGoOn s
    → (made : DoneType) × (reply ≡ Some (Done made))

-- A call keeps attached reports, changes the state only in time, and is accepted if it is such a sweep.
pub record SweepsWell (s t : State) (call : Call) (reply : Option Reply) : Type 0 where
  pub attached : KeepsAttached s t
  pub time : t ≢ s → ComesInTime s call.ask
  pub sweep : CanSweep s call reply

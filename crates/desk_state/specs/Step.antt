-- One step of the desk: a tick or a call.
use Rattle.ops_tables.specs.Tables.{actor_of}
use Rattle.std.specs.Prelude.{ℕ, ◌+◌, Bool, true, false, not, List, [], ◌∷◌, ◌++◌, length, option_to_list, Option, None, Some, Result, Ok, Err}
use Rattle.asks.specs.declared.call.Ask.{Ask}
use Rattle.asks.specs.declared.call.Call.{Call}
use Rattle.asks.specs.declared.kept.KeptReply.{KeptReply}
use Rattle.asks.specs.declared.reply.Reply.{Reply}
use Rattle.asks.specs.declared.reply.Done.{Done as DoneType}
use Rattle.asks.specs.declared.reply.Reply.TheVariants.{Done, Seen, Refused}
use Rattle.asks.specs.Canonical.{ask_digest}
use Rattle.asks.specs.declared.reply.Refusal.{Refusal}
use Rattle.asks.specs.declared.reply.Refusal.TheVariants.{HistoryFull}
use Rattle.alerts.specs.declared.notices.Notice.{Notice}
use Rattle.desk_state.specs.declared.counters.Counters.{Counters}
use Rattle.desk_state.specs.declared.entry.Entry.{Entry}
use Rattle.desk_state.specs.declared.entry.What.{What}
use Rattle.desk_state.specs.declared.entry.What.TheVariants as what
use Rattle.desk_state.specs.declared.effect.Effect.{Effect}
use Rattle.desk_state.specs.Effects.{tick}
use Rattle.desk_state.specs.declared.effect.Decision.{Decision}
use Rattle.desk_state.specs.declared.effect.Decision.TheVariants.{Show, Do}
use Rattle.desk_state.specs.State.{State, judged_all, is_full, is_full_for}
use Rattle.desk_state.specs.Events.{effected, alert_changes, notices_of}
use Rattle.desk_state.specs.Decide.{decide}
use Rattle.desk_state.specs.People.{mistaken}

abbrev pub entry : ℕ → What → Entry
entry lane what = record { lane = lane; what = what }

-- The result of a step: the reply, the state after it, and the notices about alerts. An allowed tick has no reply.
pub record Stepped : Type 0 where
  pub reply : Option Reply
  pub state : State
  pub notices : List Notice

abbrev pub stay : State → Reply → Stepped
stay s reply = record { reply = Some reply; state = s; notices = [] }

-- the next id of a kept reply, which each accepted command uses up
abbrev pub next_kept : What → ℕ → ℕ
next_kept (what.Tick to) next = next
next_kept (what.Asked call reply) next = next + 1

abbrev pub counted : What → Counters → Counters
counted w c = record c { events = c.events + 1; next_kept = next_kept w c.next_kept }

-- the kept reply of an accepted command
abbrev pub kept_reply : State → Call → DoneType → KeptReply
kept_reply t call done =
    record { id = t.counters.next_kept; actor = call.actor; number = call.number; digest = ask_digest call.ask; at = t.moment; done = done }

abbrev pub kept_of_call : State → Call → Reply → Option KeptReply
kept_of_call t call (Done done) = Some (kept_reply t call done)
kept_of_call t call (Seen text) = None
kept_of_call t call (Refused refusal) = None

-- the kept reply of an event, which a tick doesn't have
abbrev pub kept_of : State → What → Option KeptReply
kept_of t (what.Tick to) = None
kept_of t (what.Asked call reply) = kept_of_call t call reply

-- the state after every active release is judged and the event is entered in the history
abbrev pub entered : Entry → State → State
entered e t = record t {
  counters = counted e.what t.counters;
  alerts = judged_all t;
  kept = t.kept ++ option_to_list (kept_of t e.what);
  entries = t.entries ++ e ∷ [];
}

abbrev pub after_event : State → Option Reply → Effect → Entry → Stepped
after_event s reply effect e = record { reply = reply; state = entered e (effected effect s); notices = notices_of (alert_changes effect s) }

-- the call as the history keeps it
abbrev pub without_key : Call → Call
without_key call = record call { key = [] }

abbrev pub accepted : State → ℕ → Call → DoneType → Effect → Stepped
accepted s lane call made effect = after_event s (Some (Done made)) effect (entry lane (what.Asked (without_key call) (Done made)))

abbrev pub full_reply : State → Reply
full_reply s = Refused (HistoryFull (length s.entries) (length s.kept) s.counters.events)

abbrev pub enter : Bool → State → ℕ → Call → DoneType → Effect → Stepped
enter true s lane call made effect = stay s (full_reply s)
enter false s lane call made effect = accepted s lane call made effect

abbrev pub finish : State → ℕ → Call → Result Decision Refusal → Stepped
finish s lane call (Err refusal) = stay s (Refused refusal)
finish s lane call (Ok (Show reply)) = stay s reply
finish s lane call (Ok (Do made effect)) = enter (is_full_for s call.ask) s lane call made effect

-- a call whose name and key are right
unfoldable pub do_call : State → ℕ → Call → Stepped
do_call s lane call = finish s lane call (decide s call)

-- the call adds an entry to the history
abbrev pub changes_by : State → Ask → Result Decision Refusal → Bool
changes_by s a (Err refusal) = false
changes_by s a (Ok (Show reply)) = false
changes_by s a (Ok (Do made effect)) = not (is_full_for s a)

unfoldable pub changes : State → Call → Bool
changes s call = changes_by s call.ask (decide s call)

abbrev pub do_unless : Option Refusal → State → ℕ → Call → Stepped
do_unless None s lane call = do_call s lane call
do_unless (Some refusal) s lane call = stay s (Refused refusal)

-- a call, whose name and key are checked first
unfoldable pub answer_call : State → ℕ → Call → Stepped
answer_call s lane call = do_unless (mistaken (actor_of s.tables call.actor) call.key) s lane call

abbrev pub ticked : State → ℕ → ℕ → Stepped
ticked s lane to = after_event s None (tick to) (entry lane (what.Tick to))

abbrev pub tick_unless : Bool → State → ℕ → ℕ → Stepped
tick_unless true s lane to = stay s (full_reply s)
tick_unless false s lane to = ticked s lane to

-- a tick to a later moment
unfoldable pub tick_to : State → ℕ → ℕ → Stepped
tick_to s lane to = tick_unless (is_full s) s lane to

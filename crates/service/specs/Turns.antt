-- The result of a call in one turn at a shared desk.
use Rattle.std.specs.Prelude.{◌≡◌, ◌⊎◌, ℕ, ◌<◌, ◌≤◌, ◌+◌, List, [], ◌∷◌, ◌++◌, length, take, drop, Option, None, Some, Result, MatchResult}
use Rattle.std.specs.List.{AllByRecursion}
use Rattle.asks.specs.declared.call.Call.{Call}
use Rattle.asks.specs.declared.reply.Refusal.{Refusal}
use Rattle.asks.specs.declared.reply.Refusal.TheVariants.{Unkept}
use Rattle.asks.specs.declared.reply.Reply.{Reply}
use Rattle.asks.specs.declared.reply.Reply.TheVariants.{Done, Seen, Refused}
use Rattle.desk.specs.Keeping.{Asks, Choice, Counted, Given, answer_with, asked_with}
use Rattle.desk.specs.Settled.{MayHaveTicked}
use Rattle.desk.specs.declared.answering.Answered.{Answered}
use Rattle.desk_io.specs.Health.{HasFailed}
use Rattle.desk_net.specs.Clocks.{Dial, StandsAt, turned}
use Rattle.desk_net.specs.Seen.{ClockSeen}
use Rattle.desk_state.specs.State.{State}
use Rattle.desk_state.specs.declared.entry.Entry.{Entry}
use Rattle.desk_state.specs.declared.entry.What.TheVariants as what
use Rattle.desk_state.specs.declared.lanes.Said.{Said}
use Rattle.desk_state.specs.declared.lanes.Said.TheVariants as said
use Rattle.desk_time.specs.Limits.{IsMoment}
use mathlib.Core.List.{IsPrefix}
use Rattle.service.specs.Events.{entered, lane_of, miss, missed, state_at}
use Rattle.service.specs.Shared.{IsTold, SharedSeen}
use Rattle.turn_lock.specs.Elements.{elements_of}
use Rattle.connections.specs.declared.answers.Unanswered.{Unanswered}
use Rattle.connections.specs.declared.answers.Unanswered.TheVariants.{ClockFault, OutOfMemory}
use Rattle.service.specs.declared.events.Event.{Event}
use Rattle.service.specs.declared.events.Event.TheVariants.{Told, Missed}
use Rattle.service.specs.declared.misses.Miss.{Miss}
use Rattle.service.specs.declared.misses.MissOf.TheVariants as of

-- ---- the events that a call adds

-- the entries that the second state has beyond the first
abbrev pub entries_since : State → State → List Entry
entries_since s t = drop (length s.entries) t.entries

abbrev pub number_in_refusal : Refusal → Option ℕ
number_in_refusal (Unkept faults) = Some faults
number_in_refusal other = None

abbrev pub number_in_reply : Reply → Option ℕ
number_in_reply (Done made) = None
number_in_reply (Seen text) = None
number_in_reply (Refused why) = number_in_refusal why

-- the keeper's count of faults in a refusal `Unkept`
abbrev pub unkept_in : Said → Option ℕ
unkept_in (said.Reply reply) = number_in_reply reply
unkept_in (said.Bad fault) = None

abbrev pub missed_with : ℕ → Option ℕ → List Miss
missed_with lane None = []
missed_with lane (Some faults) = miss lane of.Keeper faults ∷ []

-- the miss that goes with a refusal `Unkept`
abbrev pub missed_by : ℕ → Said → List Miss
missed_by lane says = missed_with lane (unkept_in says)

-- the events that a call adds in a state: the clock's answer, the entries of its tick and of itself, and its miss
abbrev pub added_by : ℕ → ℕ → State → Given → List Event
added_by lane at s g = Told lane at ∷ (entered (entries_since s g.state) ++ missed (missed_by lane g.outcome.said))

-- ---- one turn

-- A call was answered at the clock's moment, under a choice that the keeper's counts allow, with the commits of that
-- choice. The list grew by the
-- clock's answer, by the entries of its tick and of itself, and by its miss if the keeper failed.
pub record AnswersInTurn (lane : ℕ) (call : Call) (old new : SharedSeen) (says : Said) : Type 0 where
  pub at : ℕ
  pub choice : Choice
  pub moment : IsMoment at
  pub stood : StandsAt old.clock.dial at
  pub turns : new.clock.dial ≡ turned old.clock.dial
  -- the clock was asked once, and this was its answer
  pub asked : new.clock.answers ≡ old.clock.answers ++ Some at ∷ []
  pub counted : Counted old.desk.keeper.health.faults (choice ∷ []) new.desk.keeper.health.faults
  pub asks : Asks old.desk.keeper new.desk.keeper (asked_with choice lane old.desk.state at call)
  pub its_outcome : says ≡ (answer_with choice lane old.desk.state at call).outcome.said
  pub its_state : new.desk.state ≡ (answer_with choice lane old.desk.state at call).state
  pub its_events : new.events ≡ ((old.events ++ Told lane at ∷ []) ++ entered (entries_since old.desk.state new.desk.state)) ++ missed (missed_by lane says)

-- the clock failed, and its miss has its new count
pub record MissesClock (lane : ℕ) (old new : ClockSeen) (before after : List Event) : Type 0 where
  pub failed : HasFailed old.health new.health
  pub stands : new.dial ≡ old.dial
  pub asked : new.answers ≡ old.answers ++ None ∷ []
  pub rose : old.health.faults < new.health.faults
  pub its_events : after ≡ before ++ Missed (miss lane of.Clock new.health.faults) ∷ []

-- the clock wasn't asked
pub record AsksNothing (old new : ClockSeen) (before after : List Event) : Type 0 where
  pub stands : new.dial ≡ old.dial
  pub asked : new.answers ≡ old.answers
  pub its_events : after ≡ before

-- why a call got no moment: the clock failed, or memory ran out before it was asked
abbrev pub HasNoMoment : ℕ → ClockSeen → ClockSeen → List Event → List Event → Unanswered → Type 0
HasNoMoment lane old new before after ClockFault = MissesClock lane old new before after
HasNoMoment lane old new before after OutOfMemory = AsksNothing old new before after

-- The clock was asked, and then memory ran out. The tick to its moment may have been made.
pub record TicksAtMost (lane : ℕ) (old new : SharedSeen) : Type 0 where
  pub at : ℕ
  pub moment : IsMoment at
  pub stood : StandsAt old.clock.dial at
  pub turns : new.clock.dial ≡ turned old.clock.dial
  pub asked : new.clock.answers ≡ old.clock.answers ++ Some at ∷ []
  pub ticked : MayHaveTicked lane at old.desk.state new.desk.state
  pub its_events : new.events ≡ (old.events ++ Told lane at ∷ []) ++ entered (entries_since old.desk.state new.desk.state)

-- memory ran out, before the clock was asked or after
abbrev pub FindsNoMemory : ℕ → SharedSeen → SharedSeen → Type 0
FindsNoMemory lane old new =
    ((new.desk.state ≡ old.desk.state) × AsksNothing old.clock new.clock old.events new.events) ⊎ TicksAtMost lane old new

abbrev pub GoesWithout : ℕ → SharedSeen → SharedSeen → Unanswered → Type 0
GoesWithout lane old new ClockFault = (new.desk ≡ old.desk) × MissesClock lane old.clock new.clock old.events new.events
GoesWithout lane old new OutOfMemory = FindsNoMemory lane old new

-- the reply or the fault in an answer
abbrev pub said_in : Answered → Said
said_in a = a.outcome.said

-- the result of a call in a turn
abbrev pub GoesInTurn : ℕ → Call → SharedSeen → SharedSeen → Result Answered Unanswered → Type 0
GoesInTurn lane call old new result = MatchResult result (λ a. AnswersInTurn lane call old new (said_in a)) (GoesWithout lane old new)

-- ---- in the one list

-- The turn of a call: its place in the list, the clock's moment, and at which steps the keeper failed.
pub record Turn : Type 0 where
  pub place : ℕ
  pub at : ℕ
  pub choice : Choice

-- the answer to the call in the state at its turn's place, and the events that it adds
abbrev pub given_at : State → ℕ → List Event → Call → Turn → Given
given_at opening lane list call t = answer_with t.choice lane (state_at opening list t.place) t.at call

abbrev pub added_at : State → ℕ → List Event → Call → Turn → List Event
added_at opening lane list call t = added_by lane t.at (state_at opening list t.place) (given_at opening lane list call t)

-- A call's turn lies between two places of the list. The clock's answer is at its place. The reply is the answer in the
-- state there, at that moment. The events that it adds follow.
pub record IsTurn (opening : State) (dial : Option Dial) (lane : ℕ) (list : List Event) (floor top : ℕ) (call : Call) (says : Said) (t : Turn) : Type 0 where
  pub from : floor ≤ t.place
  pub moment : IsMoment t.at
  pub told : IsTold dial t.at
  pub reply : says ≡ (given_at opening lane list call t).outcome.said
  pub stands : take (length (added_at opening lane list call t)) (drop t.place list) ≡ added_at opening lane list call t
  pub ends : t.place + length (added_at opening lane list call t) ≤ top

-- the place at which a call's turn ends
abbrev pub turn_end : State → ℕ → List Event → Call → Turn → ℕ
turn_end opening lane list call t = t.place + length (added_at opening lane list call t)

-- The call was answered in one turn, whose place is after everything seen before, and which ends the list. The lane
-- added nothing else.
abbrev pub AnsweredOnce : State → Option Dial → ℕ → List Event → List Event → Call → Said → Type 0
AnsweredOnce opening dial lane before list call says =
    (t : Turn) × IsTurn opening dial lane list (length before) (length list) call says t
    × (elements_of lane_of lane list ≡ elements_of lane_of lane before ++ added_at opening lane list call t)
    × (turn_end opening lane list call t ≡ length list)

-- The clock failed. Its miss is the last event of the list, and the lane added nothing else.
abbrev pub MissedOnce : ℕ → List Event → List Event → Type 0
MissedOnce lane before list =
    (front : List Event) × (faults : ℕ) × IsPrefix before front × (list ≡ front ++ missed (miss lane of.Clock faults ∷ []))
    × (elements_of lane_of lane list ≡ elements_of lane_of lane before ++ missed (miss lane of.Clock faults ∷ []))

-- memory ran out: nothing was added, or an answer of the clock with at most the tick to its moment
abbrev pub MayHaveTold : Option Dial → ℕ → List Event → Type 0
MayHaveTold dial lane left =
    (left ≡ [])
    ⊎ ((at : ℕ) × IsTold dial at × (ticks : List Entry) × (length ticks ≤ 1) × AllByRecursion (λ e. e.what ≡ what.Tick at) ticks × (left ≡ Told lane at ∷ entered ticks))

-- Memory ran out. What was added is at the end of the list, and the lane added nothing else.
abbrev pub ToldAtMost : Option Dial → ℕ → List Event → List Event → Type 0
ToldAtMost dial lane before list =
    (front : List Event) × (left : List Event) × MayHaveTold dial lane left × IsPrefix before front × (list ≡ front ++ left)
    × (elements_of lane_of lane list ≡ elements_of lane_of lane before ++ left)

abbrev pub UnansweredOnce : Option Dial → ℕ → List Event → List Event → Unanswered → Type 0
UnansweredOnce dial lane before list ClockFault = MissedOnce lane before list
UnansweredOnce dial lane before list OutOfMemory = ToldAtMost dial lane before list

-- the result of a call that takes a turn, as events of the list
abbrev pub ComesOnce : State → Option Dial → ℕ → List Event → List Event → Call → Result Answered Unanswered → Type 0
ComesOnce opening dial lane before list call result =
    MatchResult result (λ a. AnsweredOnce opening dial lane before list call (said_in a)) (UnansweredOnce dial lane before list)

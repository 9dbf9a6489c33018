-- The outcomes of the items of a lane.
use Rattle.std.specs.Prelude.{ℕ, nat_lt, Bool, true, false, List, [], ◌∷◌, length, Option, None, Some}
use Rattle.asks.specs.declared.call.Call.{Call}
use Rattle.asks.specs.declared.reply.Reply.{Reply}
use Rattle.asks.specs.declared.reply.Reply.TheVariants.{Seen}
use Rattle.desk_state.specs.declared.lanes.Item.{Item}
use Rattle.desk_state.specs.declared.lanes.Item.TheVariants as item
use Rattle.desk_state.specs.declared.lanes.Outcome.{Outcome}
use Rattle.desk_state.specs.declared.lanes.Said.{Said}
use Rattle.desk_state.specs.declared.lanes.Said.TheVariants as said
use Rattle.desk_state.specs.State.{State}
use Rattle.desk_state.specs.Step.{answer_call, tick_to}

-- an outcome, and the state after it
pub record Answered : Type 0 where
  pub outcome : Outcome
  pub state : State

abbrev pub said_at : State → Said → State → Answered
said_at before what after = record { outcome = record { position = length before.entries; said = what }; state = after }

-- The answer of a step: its reply. Only an allowed tick has none, so a call always has one.
abbrev pub said_of : Option Reply → Said
said_of None = said.Reply (Seen [])
said_of (Some reply) = said.Reply reply

abbrev pub made : ℕ → State → Call → Answered
made lane s call = said_at s (said_of (answer_call s lane call).reply) (answer_call s lane call).state

-- A call is made after its tick. If the tick is refused, the call gets that refusal.
abbrev pub once_ticked : ℕ → Option Reply → State → Call → Answered
once_ticked lane (Some reply) s call = said_at s (said.Reply reply) s
once_ticked lane None s call = made lane s call

abbrev pub made_late : ℕ → State → ℕ → Call → Answered
made_late lane s at call = once_ticked lane (tick_to s lane at).reply (tick_to s lane at).state call

abbrev pub made_by : Bool → ℕ → State → ℕ → Call → Answered
made_by true lane s at call = made_late lane s at call
made_by false lane s at call = made lane s call

-- a call of a lane at a moment: if the moment is later than the desk's, the desk ticks to it first
unfoldable pub answer : ℕ → State → ℕ → Call → Answered
answer lane s at call = made_by (nat_lt s.moment at) lane s at call

-- the outcome of one item
abbrev pub answer_item : ℕ → State → Item → Answered
answer_item lane s (item.Bad fault) = said_at s (said.Bad fault) s
answer_item lane s (item.Call at call) = answer lane s at call

-- the outcomes of items in order
abbrev pub outcomes : ℕ → State → List Item → List Outcome
outcomes lane s [] = []
outcomes lane s (i ∷ rest) = (answer_item lane s i).outcome ∷ outcomes lane (answer_item lane s i).state rest

abbrev pub after_items : ℕ → State → List Item → State
after_items lane s [] = s
after_items lane s (i ∷ rest) = after_items lane (answer_item lane s i).state rest

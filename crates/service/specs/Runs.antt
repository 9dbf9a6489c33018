-- The turns of a lane's calls in the list of a shared desk.
use Rattle.std.specs.Prelude.{◌≡◌, ℕ, ◌≤◌, List, [], ◌∷◌, ◌++◌, length, Option}
use Rattle.asks.specs.declared.call.Call.{Call}
use Rattle.connections.specs.Connections.{Answered, ClockFailed, Last, RanOut}
use Rattle.desk_net.specs.Clocks.{Dial}
use Rattle.desk_state.specs.State.{State}
use Rattle.desk_state.specs.declared.lanes.Said.{Said}
use Rattle.service.specs.Events.{lane_of, miss, missed}
use Rattle.service.specs.Turns.{IsTurn, MayHaveTold, Turn, added_at, turn_end}
use Rattle.service.specs.declared.events.Event.{Event}
use Rattle.service.specs.declared.misses.MissOf.TheVariants as of
use Rattle.turn_lock.specs.Elements.{elements_of}

-- a call, its answer, and its turn
pub record Reply : Type 0 where
  pub call : Call
  pub says : Said
  pub turn : Turn

abbrev pub added_for : State → ℕ → List Event → Reply → List Event
added_for opening lane list r = added_at opening lane list r.call r.turn

-- the events that replies add, one after another
abbrev pub all_added : State → ℕ → List Event → List Reply → List Event
all_added opening lane list [] = []
all_added opening lane list (r ∷ rs) = added_for opening lane list r ++ all_added opening lane list rs

-- the place at which the turn ends
abbrev pub end_of : State → ℕ → List Event → Reply → ℕ
end_of opening lane list r = turn_end opening lane list r.call r.turn

-- Each reply has its turn in the list, in order and without overlap. All turns lie between two places.
abbrev pub ArePlaced : State → Option Dial → ℕ → List Event → ℕ → ℕ → List Reply → Type 0
ArePlaced opening dial lane list floor top [] = floor ≤ top
ArePlaced opening dial lane list floor top (r ∷ rs) =
    IsTurn opening dial lane list floor (end_of opening lane list r) r.call r.says r.turn × ArePlaced opening dial lane list (end_of opening lane list r) top rs

-- the events after the last turn: none, the miss of the clock, or an answer of the clock and at most the tick to it
abbrev pub IsLeft : Option Dial → ℕ → Last → List Event → Type 0
IsLeft dial lane Answered left = left ≡ []
IsLeft dial lane ClockFailed left = (faults : ℕ) × (left ≡ missed (miss lane of.Clock faults ∷ []))
IsLeft dial lane RanOut left = MayHaveTold dial lane left

-- The turns of a lane, between the list that its pass had seen before and the list at the end. The events left come
-- after all turns, at the end of the list. The lane added nothing else.
pub record IsRun (opening : State) (dial : Option Dial) (lane : ℕ) (before list : List Event) (replies : List Reply) (last : Last) : Type 0 where
  pub left : List Event
  pub is_left : IsLeft dial lane last left
  pub top : ℕ
  pub placed : ArePlaced opening dial lane list (length before) top replies
  pub front : List Event
  pub stands : list ≡ front ++ left
  pub after : top ≤ length front
  pub own : elements_of lane_of lane list ≡ elements_of lane_of lane before ++ (all_added opening lane list replies ++ left)

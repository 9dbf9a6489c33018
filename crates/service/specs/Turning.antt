-- A connection whose calls are answered in turns at a shared desk.
use Rattle.std.specs.Prelude.{◌≡◌, ℕ, Bool, List, [], ◌∷◌, ◌++◌, take, Option, None, Some}
use Rattle.std.specs.List.{AllByRecursion}
use Rattle.connections.specs.Connections.{Last}
use Rattle.desk.specs.Keeping.{answer_with}
use Rattle.desk_net.specs.Clocks.{Dial}
use Rattle.desk_state.specs.State.{State}
use Rattle.service.specs.Connections.{Exchange}
use Rattle.asks.specs.declared.call.Call.{Call}
use Rattle.service.specs.Events.{keeps, state_at}
use Rattle.service.specs.Runs.{IsRun, Reply}
use Rattle.service.specs.Turns.{turn_end}
use Rattle.service.specs.Wanted.{call_wanted, wanted_by}
use Rattle.service.specs.declared.events.Event.{Event}

-- the reply to the call of a request, with its turn; none if the request makes no call
abbrev pub replies_for : ℕ → Exchange → Option Call → List Reply
replies_for lane x None = []
replies_for lane x (Some call) = record { call = call; says = (answer_with x.turn.choice lane x.from x.turn.at call).outcome.said; turn = x.turn } ∷ []

abbrev pub replies_of : Bool → ℕ → List Exchange → List Reply
replies_of pages lane [] = []
replies_of pages lane (x ∷ xs) = replies_for lane x (call_wanted (wanted_by pages x.wire)) ++ replies_of pages lane xs

-- A call's turn began in the state at its place. Its page would show the desk at the turn's end, and whether the events
-- until then leave rows that can be kept.
pub record IsOfTurn (opening : State) (lane : ℕ) (list : List Event) (x : Exchange) (call : Call) : Type 0 where
  pub from : x.from ≡ state_at opening list x.turn.place
  pub shows : x.view.state ≡ state_at opening list (turn_end opening lane list call x.turn)
  pub keeps : x.view.keeps ≡ keeps (take (turn_end opening lane list call x.turn) list)

abbrev pub IsFrom : State → ℕ → List Event → Exchange → Option Call → Type 0
IsFrom opening lane list x None = Unit {0}
IsFrom opening lane list x (Some call) = IsOfTurn opening lane list x call

-- The requests were answered in turns of a lane, between the list that its pass had seen before and the list at the
-- end.
pub record GoesInTurns (pages : Bool) (opening : State) (dial : Option Dial) (lane : ℕ) (before list : List Event) (xs : List Exchange) (last : Last) : Type 0 where
  pub turns : IsRun opening dial lane before list (replies_of pages lane xs) last
  pub from : AllByRecursion (λ x. IsFrom opening lane list x (call_wanted (wanted_by pages x.wire))) xs

-- The ticks of every minute, in a lane of their own.
use Rattle.std.specs.Prelude.{◌≡◌, ℕ, List, [], ◌∷◌, Option, Result}
use mathlib.Core.List.{IsPrefix}
use Rattle.connections.specs.declared.answers.Unanswered.{Unanswered}
use Rattle.desk.specs.declared.answering.Answered.{Answered}
use Rattle.desk_net.specs.Clocks.{Dial}
use Rattle.desk_state.specs.State.{State}
use Rattle.service.specs.Pages.{nobodys_call}
use Rattle.service.specs.Turns.{ComesOnce}
use Rattle.service.specs.declared.events.Event.{Event}

-- Ticks one after another, each in a turn of its lane. Each begins with what was seen at the end of the last one.
abbrev pub Ticks : State → Option Dial → ℕ → List Event → List (Result Answered Unanswered) → List Event → Type 0
Ticks opening dial lane from [] to = to ≡ from
Ticks opening dial lane from (r ∷ rs) to =
    (seen : List Event) × IsPrefix from seen × ComesOnce opening dial lane from seen nobodys_call r × Ticks opening dial lane seen rs to

-- the lane ticked some times
pub record HasTicked (opening : State) (dial : Option Dial) (lane : ℕ) (before seen : List Event) : Type 0 where
  pub results : List (Result Answered Unanswered)
  pub ticks : Ticks opening dial lane before results seen

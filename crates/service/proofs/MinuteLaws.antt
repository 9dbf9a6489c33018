-- Ticks of minutes, one after another.
use Rattle.std.proofs.Common.{ℕ, List, [], ◌∷◌, ◌++◌, Option, Result, refl, subst, arith}
use mathlib.Core.List.{IsPrefix}
use Rattle.asks.specs.Forms.{CallHasForms}
use Rattle.connections.specs.declared.answers.Unanswered.{Unanswered}
use Rattle.desk.specs.declared.answering.Answered.{Answered}
use Rattle.desk_net.specs.Clocks.{Dial}
use Rattle.desk_state.specs.State.{State}
use Rattle.service.specs.Minutes.{HasTicked, Ticks}
use Rattle.service.specs.Pages.{nobodys_call}
use Rattle.service.specs.Turns.{ComesOnce}
use Rattle.service.specs.declared.events.Event.{Event}

ticks_more : (opening : State) (dial : Option Dial) (lane : ℕ) (from mid to : List Event) (rs : List (Result Answered Unanswered)) (r : Result Answered Unanswered) → Ticks opening dial lane from rs mid → IsPrefix mid to
    → ComesOnce opening dial lane mid to nobodys_call r → Ticks opening dial lane from (rs ++ r ∷ []) to
ticks_more opening dial lane from mid to [] r one begins comes =
    subst (λ (l : List Event). Ticks opening dial lane l (r ∷ []) to) one (to, begins, comes, refl)
ticks_more opening dial lane from mid to (q ∷ rs) r (seen, goes, came, rest) begins comes = (seen, goes, came, ticks_more opening dial lane seen mid to rs r rest begins comes)

pub ticked_none : (opening : State) (dial : Option Dial) (lane : ℕ) (list : List Event) → HasTicked opening dial lane list list
ticked_none opening dial lane list = record { results = []; ticks = refl }

pub ticked_more : (opening : State) (dial : Option Dial) (lane : ℕ) (from mid to : List Event) (r : Result Answered Unanswered) → HasTicked opening dial lane from mid → IsPrefix mid to → ComesOnce opening dial lane mid to nobodys_call r
    → HasTicked opening dial lane from to
ticked_more opening dial lane from mid to r has begins comes = record { results = has.results ++ r ∷ []; ticks = ticks_more opening dial lane from mid to has.results r has.ticks begins comes }

-- the call of a minute is well-formed
pub minute_forms : CallHasForms nobodys_call
minute_forms = record {
  actor = record { text = ([], (refl, refl)); few = omega arith };
  key = record { text = ([], (refl, refl)); few = omega arith };
  number = omega arith;
  ask = tt;
}

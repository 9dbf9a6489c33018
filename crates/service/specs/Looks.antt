-- A look at a shared desk: the call of nobody in one turn, and what the desk holds after it.
use Rattle.std.specs.Prelude.{◌≡◌, ℕ, List, length, Option, Result, MatchResult}
use Rattle.connections.specs.declared.answers.Unanswered.{Unanswered}
use Rattle.desk_net.specs.Clocks.{Dial}
use Rattle.desk_state.specs.State.{State}
use Rattle.desk_state.specs.declared.lanes.Said.{Said}
use Rattle.service.specs.Events.{keeps, state_at}
use Rattle.service.specs.Pages.{gauges_of, nobodys_call, page_of}
use Rattle.service.specs.Turns.{AnsweredOnce, UnansweredOnce}
use Rattle.service.specs.declared.events.Event.{Event}
use Rattle.service.specs.declared.gauges.Gauges.{Gauges}
use Rattle.service.specs.declared.pages.Page.{Page}
use Rattle.service.specs.declared.responses.Response.{Response}

-- what the desk holds at the end of the list
abbrev pub IsMeasured : State → List Event → Gauges → Type 0
IsMeasured opening list g = g ≡ gauges_of (state_at opening list (length list)) (keeps list)

-- The call of nobody was answered in one turn, which ends the list, and the desk was measured there.
abbrev pub LookedOnce : State → Option Dial → ℕ → List Event → List Event → Gauges → Type 0
LookedOnce opening dial lane before list g = (says : Said) × AnsweredOnce opening dial lane before list nobodys_call says × IsMeasured opening list g

abbrev pub LooksOnce : State → Option Dial → ℕ → List Event → List Event → Result Gauges Unanswered → Type 0
LooksOnce opening dial lane before list result = MatchResult result (LookedOnce opening dial lane before list) (UnansweredOnce dial lane before list)

-- the response is the page, under some name of the program and with something that was counted
abbrev pub IsPageOf : Page → Gauges → Response → Type 0
IsPageOf page g r = (name : List ℕ) × (meters : List ℕ) × (r ≡ page_of page name meters g)

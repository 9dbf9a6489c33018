-- The requests of a connection to the desk, and the response to each.
use Rattle.std.specs.Prelude.{◌≡◌, ◌⊎◌, ℕ, Bool, true, false, List, [], ◌∷◌, codes, Result, Ok, Err}
use Rattle.connections.specs.Connections.{Answered, ClockFailed, Kind, Last, RanOut}
use Rattle.connections.specs.declared.answers.Unanswered.{Unanswered}
use Rattle.connections.specs.declared.answers.Unanswered.TheVariants.{ClockFault, OutOfMemory}
use Rattle.desk.specs.Run.{said_text}
use Rattle.desk_http.specs.declared.wire.Wire.{Wire}
use Rattle.desk_json.specs.Replies.{bad_text}
use Rattle.desk_state.specs.State.{State}
use Rattle.desk_state.specs.declared.lanes.Said.{Said}
use Rattle.desk.specs.Keeping.{Choice, answer_with}
use Rattle.service.specs.Exchanges.{Exchanged, bytes_of, exchanged, failing, in_json}
use Rattle.service.specs.Pages.{View, nobodys_call, page_response}
use Rattle.service.specs.Wanted.{wanted_by}
use Rattle.service.specs.Statuses.{status_of}
use Rattle.service.specs.declared.requested.Requested.{Requested}
use Rattle.service.specs.declared.requested.Requested.TheVariants as requested
use Rattle.service.specs.declared.responses.Response.{Response}
use Rattle.service.specs.declared.wanted.Wanted.{Wanted}
use Rattle.service.specs.declared.wanted.Wanted.TheVariants as wanted
use Rattle.service.specs.Turns.{Turn}

-- An answered request: its turn, the state in which the turn began, and what its page shows. These have a meaning only
-- if the request makes a call. Over a desk that isn't shared, the turn's place has none.
pub record Exchange : Type 0 where
  pub wire : Wire
  pub turn : Turn
  pub from : State
  pub view : View

abbrev pub exchanged_for : Choice → ℕ → State → ℕ → View → Wanted → Exchanged
exchanged_for c lane s at view (wanted.Asked asked) = exchanged c lane s at asked
exchanged_for c lane s at view (wanted.Page page) = record { response = page_response page view; state = (answer_with c lane s at nobodys_call).state }

-- its response, and the state after it
abbrev pub exchange : Bool → ℕ → Exchange → Exchanged
exchange pages lane x = exchanged_for x.turn.choice lane x.from x.turn.at x.view (wanted_by pages x.wire)

abbrev pub makes_call : Requested → Bool
makes_call (requested.Call call) = true
makes_call (requested.Bad fault) = false
makes_call requested.NoRoute = false
makes_call requested.WrongMethod = false

abbrev pub wants_call : Wanted → Bool
wants_call (wanted.Asked asked) = makes_call asked
wants_call (wanted.Page page) = true

-- the kind of the requests of a lane of a service with pages, or without
abbrev pub in_lane : Bool → ℕ → Kind Exchange
in_lane pages lane = record { wire = λ x. x.wire; text = λ x. bytes_of (exchange pages lane x).response; calls = λ wire. wants_call (wanted_by pages wire) }

-- ---- the response to a request

-- the response with a reply or a fault
abbrev pub said_response : Said → Response
said_response says = in_json (status_of says) (said_text says)

-- the response to a request that makes no call
abbrev pub uncalled_response : Requested → Response
uncalled_response (requested.Call call) = failing 500 []
uncalled_response (requested.Bad fault) = in_json 400 (bad_text fault)
uncalled_response requested.NoRoute = failing 404 (codes "NoRoute")
uncalled_response requested.WrongMethod = failing 405 (codes "WrongMethod")

-- the request was answered, the clock failed, or memory ran out
abbrev pub Responds : Bool → ℕ → (List Exchange → Last → Type 0) → Wire → Result Response Unanswered → Type 0
Responds pages lane goes wire (Ok r) = (x : Exchange) × (x.wire ≡ wire) × (r ≡ (exchange pages lane x).response) × goes (x ∷ []) Answered
Responds pages lane goes wire (Err ClockFault) = (wants_call (wanted_by pages wire) ≡ true) × goes [] ClockFailed
Responds pages lane goes wire (Err OutOfMemory) =
    goes [] Answered
    ⊎ (((wants_call (wanted_by pages wire) ≡ true) × goes [] RanOut) ⊎ ((x : Exchange) × (x.wire ≡ wire) × goes (x ∷ []) Answered))

-- the bytes of a response, or why there are none
abbrev pub IsTextOf : Result Response Unanswered → Result (List ℕ) Unanswered → Type 0
IsTextOf (Ok r) (Ok text) = text ≡ bytes_of r
IsTextOf (Ok r) (Err why) = why ≡ OutOfMemory
IsTextOf (Err why) (Ok text) = ⊥
IsTextOf (Err why) (Err other) = other ≡ why

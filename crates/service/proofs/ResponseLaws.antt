-- What a request is answered, and what is written of it.
use Rattle.std.proofs.Common.{◌≡◌, ◌≢◌, ℕ, Bool, true, false, List, [], Option, Some, None, Result, Ok, Err, inl, inr, refl, ap, ◌∙◌}
use Rattle.asks.specs.declared.call.Call.{Call}
use Rattle.connections.specs.Connections.{Answers, Last}
use Rattle.connections.specs.Writing.{EndsAs, EndsWithout, WritesAll, WritesAnswer}
use Rattle.connections.specs.declared.answers.Unanswered.{Unanswered}
use Rattle.connections.specs.declared.answers.Unanswered.TheVariants.{ClockFault as ByClock, OutOfMemory as NoMemory}
use Rattle.connections.specs.declared.serving.Served.{Served}
use Rattle.connections.specs.declared.serving.Served.TheVariants as served
use Rattle.desk.specs.Keeping.{no_choice}
use Rattle.desk_http.specs.declared.wire.Wire.{Wire}
use Rattle.desk_http.specs.declared.wire.WireFault.{WireFault}
use Rattle.desk_http.specs.declared.wire.WireFault.TheVariants as fault
use Rattle.desk_state.specs.State.{State}
use Rattle.service.specs.Connections.{Exchange, IsTextOf, Responds, in_lane, makes_call, uncalled_response}
use Rattle.service.specs.Exchanges.{bytes_of, exchanged}
use Rattle.service.specs.Pages.{View}
use Rattle.service.specs.Requested.{requested_by}
use Rattle.service.specs.declared.requested.Requested.{Requested}
use Rattle.service.specs.declared.requested.Requested.TheVariants as requested
use Rattle.service.specs.declared.responses.Response.{Response}

pub calls_is : (wire : Wire) (call : Call) → requested_by wire ≡ requested.Call call → makes_call (requested_by wire) ≡ true
calls_is wire call is = ap makes_call is

-- a page that nobody asked for
abbrev pub no_view : State → View
no_view s = record { state = s; keeps = true; name = []; meters = [] }

-- a request that is no call
abbrev pub uncalled : State → Wire → Exchange
uncalled s wire = record { wire = wire; turn = record { place = 0; at = 0; choice = no_choice }; from = s; view = no_view s }

pub uncalled_by : (lane : ℕ) (s : State) (asked : Requested) → makes_call asked ≡ false → (exchanged no_choice lane s 0 asked).response ≡ uncalled_response asked
uncalled_by lane s (requested.Call call) none = absurd (cc)
uncalled_by lane s (requested.Bad fault) none = refl
uncalled_by lane s requested.NoRoute none = refl
uncalled_by lane s requested.WrongMethod none = refl

-- the bytes of what is answered
pub answers_of : (pages : Bool) (lane : ℕ) (goes : List Exchange → Last → Type 0) (wire : Wire) (responded : Result Response Unanswered) (result : Result (List ℕ) Unanswered)
    → Responds pages lane goes wire responded → IsTextOf responded result → Answers (in_lane pages lane) goes wire result
answers_of pages lane goes wire (Ok r) (Ok text) (x, is, same, on) whole = (x, is, whole ∙ ap bytes_of same, on)
answers_of pages lane goes wire (Ok r) (Err ByClock) (x, is, same, on) why = absurd (cc)
answers_of pages lane goes wire (Ok r) (Err NoMemory) (x, is, same, on) why = inr (inr (x, is, on))
answers_of pages lane goes wire (Err why) (Ok text) responds never = absurd never
answers_of pages lane goes wire (Err ByClock) (Err ByClock) responds why = responds
answers_of pages lane goes wire (Err ByClock) (Err NoMemory) responds why = absurd (cc)
answers_of pages lane goes wire (Err NoMemory) (Err ByClock) responds why = absurd (cc)
answers_of pages lane goes wire (Err NoMemory) (Err NoMemory) responds why = responds

pub text_otherwise : (responded : Result Response Unanswered) (result : Result (List ℕ) Unanswered) → IsTextOf responded result → responded ≢ Err ByClock → result ≢ Err ByClock
text_otherwise (Ok r) (Ok text) whole other = λ is. absurd (cc)
text_otherwise (Ok r) (Err why) is_memory other = λ is. absurd (cc)
text_otherwise (Err why) (Ok text) never other = absurd never
text_otherwise (Err ByClock) (Err again) same other = absurd (other refl)
text_otherwise (Err NoMemory) (Err again) same other = λ is. absurd (cc)

pub text_for : (responded : Result Response Unanswered) (result : Result (List ℕ) Unanswered) → IsTextOf responded result → result ≢ Err ByClock → responded ≢ Err ByClock
text_for (Ok r) result whole other = λ is. absurd (cc)
text_for (Err NoMemory) result whole other = λ is. absurd (cc)
text_for (Err ByClock) (Ok text) never other = absurd never
text_for (Err ByClock) (Err why) same other = absurd (other (ap Err same))

-- ---- what is written where the clock hasn't failed

pub not_for_clock : (rose : Type 0) (answered : Result (List ℕ) Unanswered) (last : Bool) (result : Option Served) (piece : List ℕ) → WritesAnswer rose answered last result piece
    → result ≢ Some served.ClockFault → result ≢ Some served.OutOfMemory → answered ≢ Err ByClock
not_for_clock rose (Ok text) last result piece writes other more = λ is. absurd (cc)
not_for_clock rose (Err NoMemory) last result piece writes other more = λ is. absurd (cc)
not_for_clock rose (Err ByClock) last None piece never other more = absurd never
not_for_clock rose (Err ByClock) last (Some how) piece (inl (is, written)) other more = absurd (other (ap Some is))
not_for_clock rose (Err ByClock) last (Some how) piece (inr (is, none)) other more = absurd (more (ap Some is))

writes_otherwise : (rose : Type 0) (bytes : List ℕ) (last : Bool) (result : Option Served) (piece : List ℕ) → WritesAll rose bytes last result piece → result ≢ Some served.ClockFault
writes_otherwise rose bytes last None piece writes = λ is. absurd (cc)
writes_otherwise rose bytes last (Some served.Ended) piece writes = λ is. absurd (cc)
writes_otherwise rose bytes last (Some served.WriteFault) piece writes = λ is. absurd (cc)
writes_otherwise rose bytes last (Some served.OutOfMemory) piece writes = λ is. absurd (cc)
writes_otherwise rose bytes last (Some served.Cut) piece never = absurd never
writes_otherwise rose bytes last (Some served.BadHead) piece never = absurd never
writes_otherwise rose bytes last (Some served.TooLarge) piece never = absurd never
writes_otherwise rose bytes last (Some served.NoLength) piece never = absurd never
writes_otherwise rose bytes last (Some served.WrongMethod) piece never = absurd never
writes_otherwise rose bytes last (Some served.ReadFault) piece never = absurd never
writes_otherwise rose bytes last (Some served.ClockFault) piece never = absurd never

-- an answer that isn't for the clock's fault ends no connection by it
pub ends_otherwise : (rose : Type 0) (answered : Result (List ℕ) Unanswered) (last : Bool) (result : Option Served) (piece : List ℕ) → WritesAnswer rose answered last result piece
    → answered ≢ Err ByClock → result ≢ Some served.ClockFault
ends_otherwise rose (Ok text) last result piece writes other = writes_otherwise rose text last result piece writes
ends_otherwise rose (Err ByClock) last result piece writes other = absurd (other refl)
ends_otherwise rose (Err NoMemory) last None piece never other = absurd never
ends_otherwise rose (Err NoMemory) last (Some how) piece (inl (is, written)) other = λ e. absurd (cc)
ends_otherwise rose (Err NoMemory) last (Some how) piece (inr (is, none)) other = λ e. absurd (cc)

as_otherwise : (rose : Type 0) (wanted : Served) (text : List ℕ) (how : Served) (piece : List ℕ) → wanted ≢ served.ClockFault → EndsAs rose wanted text how piece → Some how ≢ Some served.ClockFault
as_otherwise rose wanted text how piece other (inl (is, written)) = λ e. other (cc)
as_otherwise rose wanted text how piece other (inr (is, none)) = λ e. absurd (cc)

-- nor does a connection without a further request
pub without_otherwise : (rose : Type 0) (f : WireFault) (how : Served) (piece : List ℕ) → EndsWithout rose f how piece → Some how ≢ Some served.ClockFault
without_otherwise rose fault.End how piece (is, none) = λ e. absurd (cc)
without_otherwise rose fault.Cut how piece (is, none) = λ e. absurd (cc)
without_otherwise rose fault.ReadFault how piece (is, none) = λ e. absurd (cc)
without_otherwise rose fault.BadHead how piece ends = as_otherwise rose served.BadHead _ how piece (λ e. absurd (cc)) ends
without_otherwise rose fault.TooLarge how piece ends = as_otherwise rose served.TooLarge _ how piece (λ e. absurd (cc)) ends
without_otherwise rose fault.NoLength how piece ends = as_otherwise rose served.NoLength _ how piece (λ e. absurd (cc)) ends
without_otherwise rose fault.WrongMethod how piece ends = as_otherwise rose served.WrongMethod _ how piece (λ e. absurd (cc)) ends
without_otherwise rose fault.OutOfMemory how piece ends = as_otherwise rose served.OutOfMemory _ how piece (λ e. absurd (cc)) ends

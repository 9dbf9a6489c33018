-- Requests that are answered over a desk that is lent, one after another.
use Rattle.std.proofs.Common.{◌≡◌, ℕ, ◌≤◌, false, List, [], ◌∷◌, ◌++◌, map, Option, Result, Ok, Err, inl, inr, refl, sym, ap, ◌∙◌, subst, arith}
use Rattle.std.specs.Prelude.{IfErr, IfOk}
use Rattle.std.proofs.lemmas.List.{map-append}
use Rattle.asks.specs.declared.call.Call.{Call}
use Rattle.connections.specs.Connections.{Answered, ClockFailed, Last, RanOut}
use Rattle.connections.specs.declared.answers.Unanswered.{Unanswered}
use Rattle.connections.specs.declared.answers.Unanswered.TheVariants.{ClockFault as ByClock, OutOfMemory as NoMemory}
use Rattle.desk.proofs.Choices.{counted_on}
use Rattle.desk.specs.Keeping.{Choice, Counted, answer_with, no_choice}
use Rattle.desk.specs.Settled.{MayHaveTicked}
use Rattle.desk_http.specs.declared.wire.Wire.{Wire}
use Rattle.desk_io.proofs.HealthLaws.{failed_last}
use Rattle.desk_io.specs.Health.{HasFailed}
use Rattle.desk_net.specs.Clocks.{Dial, turned}
use Rattle.desk_net.specs.Seen.{ClockGoesOn, ClockSeen}
use Rattle.desk_state.specs.State.{State}
use Rattle.desk_state.specs.declared.lanes.Said.{Said}
use Rattle.service.specs.Alone.{ComeTo, GoesAlone, IsClockMoment, Leaves, OnCall, dial_after_one}
use Rattle.service.specs.Connections.{Exchange, Responds, exchange, makes_call, said_response, uncalled_response}
use Rattle.service.specs.Exchanges.{exchanged}
use Rattle.service.specs.Requested.{requested_by}
use Rattle.service.specs.declared.requested.Requested.{Requested}
use Rattle.service.specs.declared.requested.Requested.TheVariants as requested
use Rattle.service.specs.declared.responses.Response.{Response}
use Rattle.service.proofs.ResponseLaws.{calls_is, no_view, uncalled, uncalled_by}

-- ---- one after another

leaves_more : (lane : ℕ) (early late : Option Dial) (failed clock : Type 0) (s t : State) (last : Last) → (failed → clock) → Leaves lane early late failed s t last → Leaves lane early late clock s t last
leaves_more lane early late failed clock s t Answered more leaves = leaves
leaves_more lane early late failed clock s t ClockFailed more leaves = (more leaves.0, leaves.1)
leaves_more lane early late failed clock s t RanOut more leaves = leaves

come_more : (lane : ℕ) (early late : Option Dial) (failed clock : Type 0) (s t : State) (xs : List Exchange) (last : Last) → (failed → clock) → ComeTo lane early late failed s t xs last
    → ComeTo lane early late clock s t xs last
come_more lane early late failed clock s t [] last more come = leaves_more lane early late failed clock s t last more come
come_more lane early late failed clock s t (x ∷ xs) last more come =
    (come.0, come.1, come_more lane (dial_after_one (requested_by x.wire) early) late failed clock (exchange false lane x).state t xs last more come.2)

come_on : (lane : ℕ) (early noon late : Option Dial) (first clock : Type 0) (s u t : State) (xs ys : List Exchange) (last : Last) → ComeTo lane early noon first s u xs Answered
    → ComeTo lane noon late clock u t ys last → ComeTo lane early late clock s t (xs ++ ys) last
come_on lane early noon late first clock s u t [] ys last one two =
    subst (λ (v : State). ComeTo lane early late clock v t ys last) one.1 (subst (λ (d : Option Dial). ComeTo lane d late clock u t ys last) one.0 two)
come_on lane early noon late first clock s u t (x ∷ xs) ys last one two =
    (one.0, one.1, come_on lane (dial_after_one (requested_by x.wire) early) noon late first clock (exchange false lane x).state u t xs ys last one.2 two)

pub goes_none : (lane : ℕ) (clock : ClockSeen) (count : ℕ) (s : State) → GoesAlone lane clock clock count count s s [] Answered
goes_none lane clock count s = record { counted = omega arith; come = (refl, refl) }

pub goes_on : (lane : ℕ) (early noon late : ClockSeen) (before middle after : ℕ) (s u t : State) → ClockGoesOn early noon → (xs ys : List Exchange) (last : Last)
    → GoesAlone lane early noon before middle s u xs Answered → GoesAlone lane noon late middle after u t ys last → GoesAlone lane early late before after s t (xs ++ ys) last
goes_on lane early noon late before middle after s u t goes xs ys last one two = record {
  counted = subst (λ cs. Counted before cs after) (sym (map-append (λ (x : Exchange). x.turn.choice) xs ys))
      (counted_on before (map (λ (x : Exchange). x.turn.choice) xs) (map (λ (x : Exchange). x.turn.choice) ys) middle after one.counted two.counted);
  come = come_on lane early.dial noon.dial late.dial (HasFailed early.health noon.health) (HasFailed early.health late.health) s u t xs ys last one.come
      (come_more lane noon.dial late.dial (HasFailed noon.health late.health) (HasFailed early.health late.health) u t ys last (failed_last early.health noon.health late.health goes.health) two.come);
}

-- a fault of the clock ends the answering only where the clock has failed
clock_fails : (lane : ℕ) (early late : Option Dial) (clock : Type 0) (s t : State) (xs : List Exchange) → ComeTo lane early late clock s t xs ClockFailed → clock
clock_fails lane early late clock s t [] come = come.0
clock_fails lane early late clock s t (x ∷ xs) come = clock_fails lane (dial_after_one (requested_by x.wire) early) late clock (exchange false lane x).state t xs come.2

pub goes_failed : (lane : ℕ) (early late : ClockSeen) (before after : ℕ) (s t : State) (xs : List Exchange) → GoesAlone lane early late before after s t xs ClockFailed → HasFailed early.health late.health
goes_failed lane early late before after s t xs goes = clock_fails lane early.dial late.dial (HasFailed early.health late.health) s t xs goes.come

-- ---- one request

-- a call that was made
abbrev called : State → Wire → ℕ → Choice → Exchange
called s wire at choice = record { wire = wire; turn = record { place = 0; at = at; choice = choice }; from = s; view = no_view s }

goes_called : (lane : ℕ) (early late : ClockSeen) (before after : ℕ) (s t : State) (wire : Wire) (call : Call) (at : ℕ) (choice : Choice) → requested_by wire ≡ requested.Call call
    → IsClockMoment early.dial at → late.dial ≡ turned early.dial → Counted before (choice ∷ []) after → t ≡ (answer_with choice lane s at call).state
    → GoesAlone lane early late before after s t (called s wire at choice ∷ []) Answered
goes_called lane early late before after s t wire call at choice is timed turns counted state = record {
  counted = counted;
  come = (
    refl,
    subst (λ (asked : Requested). OnCall asked (IsClockMoment early.dial at)) (sym is) timed,
    (turns ∙ ap (λ (asked : Requested). dial_after_one asked early.dial) (sym is), state ∙ ap (λ (asked : Requested). (exchanged choice lane s at asked).state) (sym is)),
  );
}

-- a call that was answered, whose response there may be no memory for
pub call_responds : (lane : ℕ) (early late : ClockSeen) (before after : ℕ) (s t : State) (wire : Wire) (call : Call) (at : ℕ) (choice : Choice) (says : Said) (r : Result Response Unanswered)
    → requested_by wire ≡ requested.Call call → IsClockMoment early.dial at → late.dial ≡ turned early.dial → Counted before (choice ∷ []) after
    → says ≡ (answer_with choice lane s at call).outcome.said → t ≡ (answer_with choice lane s at call).state → IfOk r (λ x. x ≡ said_response says) → IfErr r (λ e. e ≡ NoMemory)
    → Responds false lane (GoesAlone lane early late before after s t) wire r
call_responds lane early late before after s t wire call at choice says (Ok x) is timed turns counted said state one two = (
  called s wire at choice,
  refl,
  one ∙ ap said_response said ∙ ap (λ (asked : Requested). (exchanged choice lane s at asked).response) (sym is),
  goes_called lane early late before after s t wire call at choice is timed turns counted state,
)
call_responds lane early late before after s t wire call at choice says (Err ByClock) is timed turns counted said state one two = absurd (cc)
call_responds lane early late before after s t wire call at choice says (Err NoMemory) is timed turns counted said state one two =
    inr (inr (called s wire at choice, refl, goes_called lane early late before after s t wire call at choice is timed turns counted state))

-- the clock failed
pub clock_responds : (lane : ℕ) (early late : ClockSeen) (count : ℕ) (s : State) (wire : Wire) (call : Call) → requested_by wire ≡ requested.Call call → HasFailed early.health late.health
    → late.dial ≡ early.dial → Responds false lane (GoesAlone lane early late count count s s) wire (Err ByClock)
clock_responds lane early late count s wire call is failed stands = (calls_is wire call is, record { counted = omega arith; come = (failed, (stands, refl)) })

-- memory ran out within the call
pub memory_responds : (lane : ℕ) (early late : ClockSeen) (before after : ℕ) (s t : State) (wire : Wire) (call : Call) (at : ℕ) → requested_by wire ≡ requested.Call call → before ≤ after
    → IsClockMoment early.dial at → late.dial ≡ turned early.dial → MayHaveTicked lane at s t → Responds false lane (GoesAlone lane early late before after s t) wire (Err NoMemory)
memory_responds lane early late before after s t wire call at is later timed turns ticked = inr (inl (calls_is wire call is, record { counted = later; come = (turns, (at, timed, ticked)) }))

-- ---- what is no call

no_moment : (asked : Requested) (P : Type 0) → makes_call asked ≡ false → OnCall asked P
no_moment (requested.Call call) P none = absurd (cc)
no_moment (requested.Bad fault) P none = tt
no_moment requested.NoRoute P none = tt
no_moment requested.WrongMethod P none = tt

same_dial : (asked : Requested) (dial : Option Dial) → makes_call asked ≡ false → dial ≡ dial_after_one asked dial
same_dial (requested.Call call) dial none = absurd (cc)
same_dial (requested.Bad fault) dial none = refl
same_dial requested.NoRoute dial none = refl
same_dial requested.WrongMethod dial none = refl

same_state : (asked : Requested) (lane : ℕ) (s : State) → makes_call asked ≡ false → s ≡ (exchanged no_choice lane s 0 asked).state
same_state (requested.Call call) lane s none = absurd (cc)
same_state (requested.Bad fault) lane s none = refl
same_state requested.NoRoute lane s none = refl
same_state requested.WrongMethod lane s none = refl

pub uncalled_responds : (lane : ℕ) (clock : ClockSeen) (count : ℕ) (s : State) (wire : Wire) (asked : Requested) (r : Response) → asked ≡ requested_by wire → makes_call asked ≡ false
    → r ≡ uncalled_response asked → Responds false lane (GoesAlone lane clock clock count count s s) wire (Ok r)
uncalled_responds lane clock count s wire asked r is none same =
    let no_call : makes_call (requested_by wire) ≡ false = ap makes_call (sym is) ∙ none in (
      uncalled s wire,
      refl,
      same ∙ sym (uncalled_by lane s asked none) ∙ ap (λ (a : Requested). (exchanged no_choice lane s 0 a).response) is,
      record {
        counted = omega arith;
        come = (refl, no_moment (requested_by wire) (IsClockMoment clock.dial 0) no_call, (same_dial (requested_by wire) clock.dial no_call, same_state (requested_by wire) lane s no_call));
      },
    )

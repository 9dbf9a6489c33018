-- Requests that were answered in turns, one after another.
use Rattle.std.proofs.Common.{◌≡◌, inl, inr, ℕ, ◌+◌, ◌≤◌, Bool, true, false, List, [], ◌∷◌, ◌++◌, length, take, Option, None, Some, Result, Ok, Err, refl, sym, ap, ◌∙◌, subst, arith, append_assoc}
use Rattle.std.proofs.Math.Seq.{take-length}
use Rattle.std.proofs.lemmas.List.{take-append-le}
use Rattle.std.specs.List.{AllByRecursion}
use Rattle.std.specs.Prelude.{IfErr, IfOk}
use mathlib.Core.List.{IsPrefix}
use Rattle.asks.specs.declared.call.Call.{Call}
use Rattle.connections.specs.Connections.{Answered, ClockFailed, Last, RanOut}
use Rattle.connections.specs.declared.answers.Unanswered.{Unanswered}
use Rattle.connections.specs.declared.answers.Unanswered.TheVariants.{ClockFault as ByClock, OutOfMemory as NoMemory}
use Rattle.desk.specs.Keeping.{answer_with, no_choice}
use Rattle.desk_http.specs.declared.wire.Wire.{Wire}
use Rattle.desk_net.specs.Clocks.{Dial}
use Rattle.desk_state.specs.State.{State}
use Rattle.desk_state.specs.declared.lanes.Said.{Said}
use Rattle.service.specs.Connections.{Exchange, Responds, exchange, exchanged_for, makes_call, said_response, uncalled_response, wants_call}
use Rattle.service.specs.Pages.{View, gauges_of, nobodys_call, page_of}
use Rattle.service.specs.Turning.{GoesInTurns, IsFrom, IsOfTurn, replies_for, replies_of}
use Rattle.service.specs.Wanted.{call_in, call_wanted, wanted_by}
use Rattle.service.specs.declared.gauges.Gauges.{Gauges}
use Rattle.service.specs.declared.pages.Page.{Page}
use Rattle.service.specs.declared.responses.Response.{Response}
use Rattle.service.specs.declared.requested.Requested.{Requested}
use Rattle.service.specs.declared.requested.Requested.TheVariants as requested
use Rattle.service.specs.declared.wanted.Wanted.{Wanted}
use Rattle.service.specs.declared.wanted.Wanted.TheVariants as wanted
use Rattle.service.proofs.ResponseLaws.{no_view, uncalled, uncalled_by}
use Rattle.service.proofs.RunLaws.{no_run, placed_within, reply_of, run_of_miss, run_of_one, run_of_told, run_on, run_within, state_still}
use Rattle.service.specs.Events.{keeps, state_at}
use Rattle.service.specs.Runs.{ArePlaced, IsRun, Reply, end_of}
use Rattle.service.specs.Turns.{AnsweredOnce, MissedOnce, ToldAtMost, Turn, UnansweredOnce, added_by, turn_end}
use Rattle.service.specs.declared.events.Event.{Event}

replies_of-append : (pages : Bool) (lane : ℕ) (xs ys : List Exchange) → replies_of pages lane (xs ++ ys) ≡ replies_of pages lane xs ++ replies_of pages lane ys
replies_of-append pages lane [] ys = refl
replies_of-append pages lane (x ∷ xs) ys =
    let first = replies_for lane x (call_wanted (wanted_by pages x.wire)) in
    ap (λ rs. first ++ rs) (replies_of-append pages lane xs ys) ∙ sym (append_assoc first (replies_of pages lane xs) (replies_of pages lane ys))

all_on : (P : Exchange → Type 0) (xs ys : List Exchange) → AllByRecursion P xs → AllByRecursion P ys → AllByRecursion P (xs ++ ys)
all_on P [] ys one two = two
all_on P (x ∷ xs) ys one two = (one.0, all_on P xs ys one.1 two)

-- ---- where the list goes on

take_still : (n : ℕ) (list more : List Event) → n ≤ length list → take n (list ++ more) ≡ take n list
take_still n list more fits = take-append-le n list more fits

-- a turn ends where it did
end_still : (opening : State) (lane : ℕ) (list more : List Event) (call : Call) (t : Turn) → t.place ≤ length list → turn_end opening lane (list ++ more) call t ≡ turn_end opening lane list call t
end_still opening lane list more call t fits =
    ap (λ (s : State). t.place + length (added_by lane t.at s (answer_with t.choice lane s t.at call))) (state_still opening list more t.place fits)

of_turn_still : (opening : State) (lane : ℕ) (list more : List Event) (x : Exchange) (call : Call) → x.turn.place ≤ length list → turn_end opening lane list call x.turn ≤ length list
    → IsOfTurn opening lane list x call → IsOfTurn opening lane (list ++ more) x call
of_turn_still opening lane list more x call begins ends is =
    let same = end_still opening lane list more call x.turn begins in
    let end = turn_end opening lane list call x.turn in record {
      from = is.from ∙ sym (state_still opening list more x.turn.place begins);
      shows = is.shows ∙ sym (ap (state_at opening (list ++ more)) same ∙ state_still opening list more end ends);
      keeps = is.keeps ∙ ap (λ l. keeps l) (sym (ap (λ n. take n (list ++ more)) same ∙ take_still end list more ends));
    }

-- what a request began from stays where the list goes on, and so do those after it
record Stays (opening : State) (dial : Option Dial) (lane : ℕ) (list more : List Event) (top : ℕ) (x : Exchange) (rest : List Reply) (asked : Option Call) : Type 0 where
  pub floor : ℕ
  pub is : IsFrom opening lane (list ++ more) x asked
  pub placed : ArePlaced opening dial lane list floor top rest

stays_one : (opening : State) (dial : Option Dial) (lane : ℕ) (list more : List Event) (floor top : ℕ) (x : Exchange) (rest : List Reply) (asked : Option Call) → top ≤ length list
    → ArePlaced opening dial lane list floor top (replies_for lane x asked ++ rest) → IsFrom opening lane list x asked → Stays opening dial lane list more top x rest asked
stays_one opening dial lane list more floor top x rest None within placed is = record { floor = floor; is = tt; placed = placed }
stays_one opening dial lane list more floor top x rest (Some call) within placed is =
    let r : Reply = record { call = call; says = (answer_with x.turn.choice lane x.from x.turn.at call).outcome.said; turn = x.turn } in
    let later = placed_within opening dial lane list (end_of opening lane list r) top rest placed.1 in
    let begins : x.turn.place ≤ length list = omega (arith, later, within) in
    let ends : turn_end opening lane list call x.turn ≤ length list = omega (arith, later, within) in
    record { floor = end_of opening lane list r; is = of_turn_still opening lane list more x call begins ends is; placed = placed.1 }

from_still : (pages : Bool) (opening : State) (dial : Option Dial) (lane : ℕ) (list more : List Event) (floor top : ℕ) (xs : List Exchange) → top ≤ length list
    → ArePlaced opening dial lane list floor top (replies_of pages lane xs) → AllByRecursion (λ x. IsFrom opening lane list x (call_wanted (wanted_by pages x.wire))) xs
    → AllByRecursion (λ x. IsFrom opening lane (list ++ more) x (call_wanted (wanted_by pages x.wire))) xs
from_still pages opening dial lane list more floor top [] within placed from = tt
from_still pages opening dial lane list more floor top (x ∷ xs) within placed from =
    let one = stays_one opening dial lane list more floor top x (replies_of pages lane xs) (call_wanted (wanted_by pages x.wire)) within placed from.0 in
    (one.is, from_still pages opening dial lane list more one.floor top xs within one.placed from.1)

-- ---- one after another

pub goes_none : (pages : Bool) (opening : State) (dial : Option Dial) (lane : ℕ) (list : List Event) → GoesInTurns pages opening dial lane list list [] Answered
goes_none pages opening dial lane list = record { turns = no_run opening dial lane list; from = tt }

pub goes_on : (pages : Bool) (opening : State) (dial : Option Dial) (lane : ℕ) (before middle list : List Event) → IsPrefix middle list → (xs ys : List Exchange) (last : Last)
    → GoesInTurns pages opening dial lane before middle xs Answered → GoesInTurns pages opening dial lane middle list ys last → GoesInTurns pages opening dial lane before list (xs ++ ys) last
goes_on pages opening dial lane before middle list goes xs ys last one two =
    let top = run_within opening dial lane before middle (replies_of pages lane xs) Answered one.turns in record {
      turns = subst (λ (rs : List Reply). IsRun opening dial lane before list rs last) (sym (replies_of-append pages lane xs ys))
          (run_on opening dial lane before middle list (replies_of pages lane xs) (replies_of pages lane ys) last goes one.turns two.turns);
      from = all_on (λ x. IsFrom opening lane list x (call_wanted (wanted_by pages x.wire))) xs ys
          (subst (λ (l : List Event). AllByRecursion (λ x. IsFrom opening lane l x (call_wanted (wanted_by pages x.wire))) xs) goes.1
          (from_still pages opening dial lane middle goes.0 (length before) one.turns.top xs top one.turns.placed one.from))
          two.from;
    }

-- ---- one request

-- what a page shows at the end of a list
abbrev pub view_at : State → List Event → List ℕ → List ℕ → View
view_at opening list name meters = record { state = state_at opening list (length list); keeps = keeps list; name = name; meters = meters }

-- a call that was answered in a turn, which ends the list
abbrev pub called : State → List Event → Wire → Turn → List ℕ → List ℕ → Exchange
called opening list wire t name meters = record { wire = wire; turn = t; from = state_at opening list t.place; view = view_at opening list name meters }

of_turn : (opening : State) (dial : Option Dial) (lane : ℕ) (before list : List Event) (wire : Wire) (call : Call) (says : Said) (name meters : List ℕ) → (once : AnsweredOnce opening dial lane before list call says)
    → IsOfTurn opening lane list (called opening list wire once.0 name meters) call
of_turn opening dial lane before list wire call says name meters once = record {
  from = refl;
  shows = ap (state_at opening list) (sym once.3);
  keeps = ap (λ l. keeps l) (sym (ap (λ n. take n list) once.3 ∙ take-length list));
}

pub goes_called : (pages : Bool) (opening : State) (dial : Option Dial) (lane : ℕ) (before list : List Event) (wire : Wire) (call : Call) (says : Said) (name meters : List ℕ) → call_wanted (wanted_by pages wire) ≡ Some call
    → (once : AnsweredOnce opening dial lane before list call says) → GoesInTurns pages opening dial lane before list (called opening list wire once.0 name meters ∷ []) Answered
goes_called pages opening dial lane before list wire call says name meters is once =
    let x : Exchange = called opening list wire once.0 name meters in
    let same : reply_of call says once.0 ∷ [] ≡ replies_of pages lane (x ∷ []) =
    ap (λ (s : Said). reply_of call s once.0 ∷ []) once.1.reply ∙ ap (λ (asked : Option Call). replies_for lane x asked ++ []) (sym is) in record {
      turns = subst (λ (rs : List Reply). IsRun opening dial lane before list rs Answered) same (run_of_one opening dial lane before list call says once);
      from = (subst (IsFrom opening lane list x) (sym is) (of_turn opening dial lane before list wire call says name meters once), tt);
    }

-- what is no call takes no turn
pub goes_uncalled : (pages : Bool) (opening : State) (dial : Option Dial) (lane : ℕ) (list : List Event) (x : Exchange) → call_wanted (wanted_by pages x.wire) ≡ None
    → GoesInTurns pages opening dial lane list list (x ∷ []) Answered
goes_uncalled pages opening dial lane list x is =
    let same : [] ≡ replies_of pages lane (x ∷ []) = ap (λ (a : Option Call). replies_for lane x a ++ []) (sym is) in record {
      turns = subst (λ (rs : List Reply). IsRun opening dial lane list list rs Answered) same (no_run opening dial lane list);
      from = (subst (IsFrom opening lane list x) (sym is) tt, tt);
    }

pub goes_missed : (pages : Bool) (opening : State) (dial : Option Dial) (lane : ℕ) (before list : List Event) → MissedOnce lane before list → GoesInTurns pages opening dial lane before list [] ClockFailed
goes_missed pages opening dial lane before list once = record { turns = run_of_miss opening dial lane before list once; from = tt }

pub goes_told : (pages : Bool) (opening : State) (dial : Option Dial) (lane : ℕ) (before list : List Event) → ToldAtMost dial lane before list → GoesInTurns pages opening dial lane before list [] RanOut
goes_told pages opening dial lane before list once = record { turns = run_of_told opening dial lane before list once; from = tt }

-- ---- what a request is answered

-- the response to a call is that to what is said of it
call_response : (pages : Bool) (lane : ℕ) (opening : State) (list : List Event) (wire : Wire) (call : Call) (t : Turn) (says : Said) → wanted_by pages wire ≡ wanted.Asked (requested.Call call)
    → says ≡ (answer_with t.choice lane (state_at opening list t.place) t.at call).outcome.said → said_response says ≡ (exchange pages lane (called opening list wire t [] [])).response
call_response pages lane opening list wire call t says is said =
    ap said_response said ∙ ap (λ (w : Wanted). (exchanged_for t.choice lane (state_at opening list t.place) t.at (view_at opening list [] []) w).response) (sym is)

-- a call in its turn
pub call_responds : (pages : Bool) (opening : State) (dial : Option Dial) (lane : ℕ) (before list : List Event) (wire : Wire) (call : Call) (says : Said) (r : Result Response Unanswered)
    → wanted_by pages wire ≡ wanted.Asked (requested.Call call) → AnsweredOnce opening dial lane before list call says → IfOk r (λ x. x ≡ said_response says) → IfErr r (λ e. e ≡ NoMemory)
    → Responds pages lane (GoesInTurns pages opening dial lane before list) wire r
call_responds pages opening dial lane before list wire call says (Ok x) is once one two = (
  called opening list wire once.0 [] [],
  refl,
  one ∙ call_response pages lane opening list wire call once.0 says is once.1.reply,
  goes_called pages opening dial lane before list wire call says [] [] (ap call_wanted is) once,
)
call_responds pages opening dial lane before list wire call says (Err ByClock) is once one two = absurd (cc)
call_responds pages opening dial lane before list wire call says (Err NoMemory) is once one two =
    inr (inr (called opening list wire once.0 [] [], refl, goes_called pages opening dial lane before list wire call says [] [] (ap call_wanted is) once))

-- a page, which shows the desk at the end of its turn
pub page_responds : (pages : Bool) (opening : State) (dial : Option Dial) (lane : ℕ) (before list : List Event) (wire : Wire) (page : Page) (says : Said) (name meters : List ℕ) (g : Gauges) (r : Result Response Unanswered)
    → wanted_by pages wire ≡ wanted.Page page → AnsweredOnce opening dial lane before list nobodys_call says → g ≡ gauges_of (state_at opening list (length list)) (keeps list)
    → IfOk r (λ x. x ≡ page_of page name meters g) → IfErr r (λ e. e ≡ NoMemory) → Responds pages lane (GoesInTurns pages opening dial lane before list) wire r
page_responds pages opening dial lane before list wire page says name meters g (Ok x) is once shows one two = (
  called opening list wire once.0 name meters,
  refl,
  one
      ∙ ap (page_of page name meters) shows
      ∙ ap (λ (w : Wanted). (exchanged_for once.0.choice lane (state_at opening list once.0.place) once.0.at (view_at opening list name meters) w).response) (sym is),
  goes_called pages opening dial lane before list wire nobodys_call says name meters (ap call_wanted is) once,
)
page_responds pages opening dial lane before list wire page says name meters g (Err ByClock) is once shows one two = absurd (cc)
page_responds pages opening dial lane before list wire page says name meters g (Err NoMemory) is once shows one two =
    inr (inr (called opening list wire once.0 name meters, refl, goes_called pages opening dial lane before list wire nobodys_call says name meters (ap call_wanted is) once))

-- a call that wasn't answered
pub call_fails : (pages : Bool) (opening : State) (dial : Option Dial) (lane : ℕ) (before list : List Event) (wire : Wire) (why : Unanswered) → wants_call (wanted_by pages wire) ≡ true
    → UnansweredOnce dial lane before list why → Responds pages lane (GoesInTurns pages opening dial lane before list) wire (Err why)
call_fails pages opening dial lane before list wire ByClock is once = (is, goes_missed pages opening dial lane before list once)
call_fails pages opening dial lane before list wire NoMemory is once = inr (inl (is, goes_told pages opening dial lane before list once))

-- no call
no_call : (asked : Requested) → makes_call asked ≡ false → call_in asked ≡ None
no_call (requested.Call call) none = absurd (cc)
no_call (requested.Bad fault) none = refl
no_call requested.NoRoute none = refl
no_call requested.WrongMethod none = refl

pub uncalled_responds : (pages : Bool) (opening : State) (dial : Option Dial) (lane : ℕ) (list : List Event) (wire : Wire) (asked : Requested) (r : Response) → wanted_by pages wire ≡ wanted.Asked asked → makes_call asked ≡ false
    → r ≡ uncalled_response asked → Responds pages lane (GoesInTurns pages opening dial lane list list) wire (Ok r)
uncalled_responds pages opening dial lane list wire asked r is none same =
    let x : Exchange = uncalled opening wire in (
      x,
      refl,
      same ∙ sym (uncalled_by lane opening asked none) ∙ ap (λ (w : Wanted). (exchanged_for no_choice lane opening 0 (no_view opening) w).response) (sym is),
      goes_uncalled pages opening dial lane list x (ap call_wanted is ∙ no_call asked none),
    )

pub nothing_responds : (pages : Bool) (opening : State) (dial : Option Dial) (lane : ℕ) (list : List Event) (wire : Wire) → Responds pages lane (GoesInTurns pages opening dial lane list list) wire (Err NoMemory)
nothing_responds pages opening dial lane list wire = inl (goes_none pages opening dial lane list)

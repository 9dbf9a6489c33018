-- Turns of a lane that follow each other.
use Rattle.std.proofs.Common.{◌≡◌, ℕ, ◌+◌, ◌≤◌, List, [], ◌∷◌, ◌++◌, length, take, drop, Option, refl, sym, ap, ◌∙◌, subst, arith, append_assoc, append-nil, length-append, length-drop}
use Rattle.std.proofs.lemmas.List.{take-append-le, drop-append-le}
use mathlib.Core.List.{IsPrefix}
use Rattle.asks.specs.declared.call.Call.{Call}
use Rattle.desk.specs.Keeping.{answer_with}
use Rattle.desk_net.specs.Clocks.{Dial}
use Rattle.desk_state.specs.State.{State}
use Rattle.desk_state.specs.declared.lanes.Said.{Said}
use Rattle.service.specs.Events.{after_entries, entries_in, lane_of, miss, missed, state_at}
use Rattle.connections.specs.Connections.{Answered, ClockFailed, Last, RanOut}
use Rattle.service.specs.Runs.{ArePlaced, IsRun, Reply, added_for, all_added, end_of}
use Rattle.service.specs.Turns.{AnsweredOnce, IsTurn, MissedOnce, ToldAtMost, Turn, added_by}
use Rattle.service.specs.declared.events.Event.{Event}
use Rattle.service.specs.declared.misses.MissOf.TheVariants as of
use Rattle.turn_lock.specs.Elements.{elements_of}

-- ---- lists that go on

pub state_still : (opening : State) (list more : List Event) (place : ℕ) → place ≤ length list → state_at opening (list ++ more) place ≡ state_at opening list place
state_still opening list more place within = ap (λ l. after_entries opening (entries_in l)) (take-append-le place list more within)

added_still : (opening : State) (lane : ℕ) (list more : List Event) (r : Reply) → r.turn.place ≤ length list → added_for opening lane (list ++ more) r ≡ added_for opening lane list r
added_still opening lane list more r within =
    ap (λ (s : State). added_by lane r.turn.at s (answer_with r.turn.choice lane s r.turn.at r.call)) (state_still opening list more r.turn.place within)

-- what stands at a place of a list stands there in one that goes on
front_still : (list more added : List Event) (place : ℕ) → place + length added ≤ length list → take (length added) (drop place list) ≡ added → take (length added) (drop place (list ++ more)) ≡ added
front_still list more added place within stands =
    let fits : place ≤ length list = omega (arith, within) in
    let rest : length added ≤ length (drop place list) = omega (arith, within, length-drop place list) in
    ap (take (length added)) (drop-append-le place list more fits) ∙ (take-append-le (length added) (drop place list) more rest ∙ stands)

-- a turn stands where it stood
turn_still : (opening : State) (dial : Option Dial) (lane : ℕ) (list more : List Event) (floor : ℕ) (r : Reply) → end_of opening lane list r ≤ length list
    → IsTurn opening dial lane list floor (end_of opening lane list r) r.call r.says r.turn
    → IsTurn opening dial lane (list ++ more) floor (end_of opening lane (list ++ more) r) r.call r.says r.turn
turn_still opening dial lane list more floor r within turn =
    let place : ℕ = r.turn.place in
    let fits : place ≤ length list = omega (arith, within) in
    let state = state_still opening list more place fits in
    let same = added_still opening lane list more r fits in
    record {
      from = turn.from;
      moment = turn.moment;
      told = turn.told;
      reply = turn.reply ∙ ap (λ (s : State). (answer_with r.turn.choice lane s r.turn.at r.call).outcome.said) (sym state);
      stands = subst (λ (added : List Event). take (length added) (drop r.turn.place (list ++ more)) ≡ added) (sym same)
          (front_still list more (added_for opening lane list r) place within turn.stands);
      ends = omega arith;
    }

end_still : (opening : State) (lane : ℕ) (list more : List Event) (r : Reply) → r.turn.place ≤ length list → end_of opening lane (list ++ more) r ≡ end_of opening lane list r
end_still opening lane list more r within = ap (λ (added : List Event). r.turn.place + length added) (added_still opening lane list more r within)

-- what is placed ends before the last place
pub placed_within : (opening : State) (dial : Option Dial) (lane : ℕ) (list : List Event) (floor top : ℕ) (rs : List Reply) → ArePlaced opening dial lane list floor top rs → floor ≤ top
placed_within opening dial lane list floor top [] placed = placed
placed_within opening dial lane list floor top (r ∷ rs) placed =
    let from = placed.0.from in let rest = placed_within opening dial lane list (end_of opening lane list r) top rs placed.1 in omega (arith, from, rest)

placed_still : (opening : State) (dial : Option Dial) (lane : ℕ) (list more : List Event) (floor top : ℕ) (rs : List Reply) → top ≤ length list → ArePlaced opening dial lane list floor top rs
    → ArePlaced opening dial lane (list ++ more) floor top rs
placed_still opening dial lane list more floor top [] within placed = placed
placed_still opening dial lane list more floor top (r ∷ rs) within placed =
    let rest = placed_within opening dial lane list (end_of opening lane list r) top rs placed.1 in
    let ends : end_of opening lane list r ≤ length list = omega (arith, rest, within) in
    let fits : r.turn.place ≤ length list = omega (arith, ends) in (
      turn_still opening dial lane list more floor r ends placed.0,
      subst (λ (n : ℕ). ArePlaced opening dial lane (list ++ more) n top rs) (sym (end_still opening lane list more r fits)) (placed_still opening dial lane list more (end_of opening lane list r) top rs within placed.1),
    )

all_added_still : (opening : State) (dial : Option Dial) (lane : ℕ) (list more : List Event) (floor top : ℕ) (rs : List Reply) → top ≤ length list → ArePlaced opening dial lane list floor top rs
    → all_added opening lane (list ++ more) rs ≡ all_added opening lane list rs
all_added_still opening dial lane list more floor top [] within placed = refl
all_added_still opening dial lane list more floor top (r ∷ rs) within placed =
    let rest = placed_within opening dial lane list (end_of opening lane list r) top rs placed.1 in
    let fits : r.turn.place ≤ length list = omega (arith, rest, within) in
    (λ k. added_still opening lane list more r fits k ++ all_added_still opening dial lane list more (end_of opening lane list r) top rs within placed.1 k)

-- ---- one run after another

lower_floor : (opening : State) (dial : Option Dial) (lane : ℕ) (list : List Event) (less floor top : ℕ) (rs : List Reply) → less ≤ floor → ArePlaced opening dial lane list floor top rs
    → ArePlaced opening dial lane list less top rs
lower_floor opening dial lane list less floor top [] le placed = omega (arith, le, placed)
lower_floor opening dial lane list less floor top (r ∷ rs) le placed =
    let t = placed.0 in
    let from = t.from in
    (record { from = omega (arith, le, from); moment = t.moment; told = t.told; reply = t.reply; stands = t.stands; ends = t.ends }, placed.1)

placed_on : (opening : State) (dial : Option Dial) (lane : ℕ) (list : List Event) (floor middle floor' top : ℕ) (rs qs : List Reply) → middle ≤ floor' → ArePlaced opening dial lane list floor middle rs
    → ArePlaced opening dial lane list floor' top qs → ArePlaced opening dial lane list floor top (rs ++ qs)
placed_on opening dial lane list floor middle floor' top [] qs le one two = lower_floor opening dial lane list floor floor' top qs (omega (arith, le, one)) two
placed_on opening dial lane list floor middle floor' top (r ∷ rs) qs le one two = (one.0, placed_on opening dial lane list (end_of opening lane list r) middle floor' top rs qs le one.1 two)

all_added_both : (opening : State) (lane : ℕ) (list : List Event) (rs qs : List Reply) → all_added opening lane list (rs ++ qs) ≡ all_added opening lane list rs ++ all_added opening lane list qs
all_added_both opening lane list [] qs = refl
all_added_both opening lane list (r ∷ rs) qs =
    ap (λ l. added_for opening lane list r ++ l) (all_added_both opening lane list rs qs) ∙ sym (append_assoc (added_for opening lane list r) (all_added opening lane list rs) (all_added opening lane list qs))

-- the replies end within the list
pub run_within : (opening : State) (dial : Option Dial) (lane : ℕ) (before list : List Event) (rs : List Reply) (last : Last) (is : IsRun opening dial lane before list rs last) → is.top ≤ length list
run_within opening dial lane before list rs last is = let after = is.after in omega (arith, after, ap length is.stands, length-append is.front is.left)

-- a run that was only answered, and another after it
pub run_on : (opening : State) (dial : Option Dial) (lane : ℕ) (before middle list : List Event) (rs qs : List Reply) (last : Last) → IsPrefix middle list
    → IsRun opening dial lane before middle rs Answered → IsRun opening dial lane middle list qs last → IsRun opening dial lane before list (rs ++ qs) last
run_on opening dial lane before middle list rs qs last goes one two =
    let top = run_within opening dial lane before middle rs Answered one in
    let placed = subst (λ (l : List Event). ArePlaced opening dial lane l (length before) one.top rs) goes.1 (placed_still opening dial lane middle goes.0 (length before) one.top rs top one.placed) in
    let same : all_added opening lane list rs ≡ all_added opening lane middle rs =
    ap (λ (l : List Event). all_added opening lane l rs) (sym goes.1) ∙ all_added_still opening dial lane middle goes.0 (length before) one.top rs top one.placed in
    let first : elements_of lane_of lane middle ≡ elements_of lane_of lane before ++ all_added opening lane middle rs =
    one.own ∙ ap (λ l. elements_of lane_of lane before ++ l) (ap (λ l. all_added opening lane middle rs ++ l) one.is_left ∙ append-nil (all_added opening lane middle rs)) in
    record {
      left = two.left;
      is_left = two.is_left;
      top = two.top;
      placed = placed_on opening dial lane list (length before) one.top (length middle) two.top rs qs top placed two.placed;
      front = two.front;
      stands = two.stands;
      after = two.after;
      own =
          two.own
          ∙ (ap (λ l. l ++ (all_added opening lane list qs ++ two.left)) first
          ∙ (append_assoc (elements_of lane_of lane before) (all_added opening lane middle rs) (all_added opening lane list qs ++ two.left)
          ∙ ap (λ l. elements_of lane_of lane before ++ l)
          (sym (append_assoc (all_added opening lane middle rs) (all_added opening lane list qs) two.left)
          ∙ ap (λ l. l ++ two.left) (ap (λ l. l ++ all_added opening lane list qs) (sym same) ∙ sym (all_added_both opening lane list rs qs)))));
    }

-- ---- runs of one turn, and of none

pub no_run : (opening : State) (dial : Option Dial) (lane : ℕ) (list : List Event) → IsRun opening dial lane list list [] Answered
no_run opening dial lane list = record {
  left = [];
  is_left = refl;
  top = length list;
  placed = omega arith;
  front = list;
  stands = sym (append-nil list);
  after = omega arith;
  own = sym (append-nil (elements_of lane_of lane list));
}

abbrev pub reply_of : Call → Said → Turn → Reply
reply_of call says t = record { call = call; says = says; turn = t }

pub run_of_one : (opening : State) (dial : Option Dial) (lane : ℕ) (before list : List Event) (call : Call) (says : Said) (once : AnsweredOnce opening dial lane before list call says)
    → IsRun opening dial lane before list (reply_of call says once.0 ∷ []) Answered
run_of_one opening dial lane before list call says once =
    let t = once.1 in
    let r : Reply = reply_of call says once.0 in
    let ends = t.ends in
    record {
      left = [];
      is_left = refl;
      top = end_of opening lane list r;
      placed = (record { from = t.from; moment = t.moment; told = t.told; reply = t.reply; stands = t.stands; ends = omega arith }, omega arith);
      front = list;
      stands = sym (append-nil list);
      after = omega (arith, ends);
      own = once.2 ∙ ap (λ l. elements_of lane_of lane before ++ l) (sym (append-nil (added_for opening lane list r)) ∙ sym (append-nil (added_for opening lane list r ++ [])));
    }

prefix_length : (xs ys : List Event) → IsPrefix xs ys → length xs ≤ length ys
prefix_length xs ys p = omega (arith, ap length (sym p.1), length-append xs p.0)

pub run_of_miss : (opening : State) (dial : Option Dial) (lane : ℕ) (before list : List Event) → MissedOnce lane before list → IsRun opening dial lane before list [] ClockFailed
run_of_miss opening dial lane before list once =
    let less = prefix_length before once.0 once.2 in record {
      left = missed (miss lane of.Clock once.1 ∷ []);
      is_left = (once.1, refl);
      top = length once.0;
      placed = less;
      front = once.0;
      stands = once.3;
      after = omega arith;
      own = once.4;
    }

pub run_of_told : (opening : State) (dial : Option Dial) (lane : ℕ) (before list : List Event) → ToldAtMost dial lane before list → IsRun opening dial lane before list [] RanOut
run_of_told opening dial lane before list once =
    record {
      left = once.1;
      is_left = once.2;
      top = length before;
      placed = omega arith;
      front = once.0;
      stands = once.4;
      after = prefix_length before once.0 once.3;
      own = once.5;
    }

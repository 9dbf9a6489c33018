-- An item of a script that is answered on the board, and what was done of it when memory ran out.
use Rattle.std.proofs.Common.{◌≡◌, ℕ, inl, List, [], ◌∷◌, ◌++◌, append_assoc, refl, sym, ap, ◌∙◌, subst}
use Rattle.alerts.specs.Ringing.{Hung}
use Rattle.alerts.specs.declared.notices.Notice.{Notice}
use Rattle.desk.proofs.Choices.{KeptBy, counted_on}
use Rattle.desk.proofs.InPart.{after_next, at_next, none_so_far}
use Rattle.desk.specs.InPart.{AreGivenInPart, MayHaveBegun, MayHaveBegunNext}
use Rattle.desk.specs.Keeping.{AreGivenSoFar, Choice, Given, KeptAt, KeptLater, after_with, asked_item, item_with}
use Rattle.desk.specs.Run.{said_text}
use Rattle.desk.specs.Seen.{DeskSeen}
use Rattle.desk.specs.Settled.{AnswersItem}
use Rattle.desk.specs.declared.answering.Answered.{Answered}
use Rattle.desk_state.specs.Repeats.{IsAskable}
use Rattle.desk_state.specs.State.{State}
use Rattle.desk_state.specs.declared.lanes.Item.{Item}
use Rattle.desk_state.specs.declared.lanes.Item.TheVariants as kind
use Rattle.desk_state.specs.declared.lanes.Outcome.{Outcome}
use Rattle.relief.specs.Seated.{HaveHeard, Told, told_under}
use Rattle.relief.specs.declared.lines.RosterLine.{RosterLine}
use Rattle.scripts.specs.ShiftLines.{HaveHeardSome, IsAnsweredUnder}

-- ---- the bells

pub rung_twice : (told : List Told) (roster : List RosterLine) (ticked called : List Notice) (bells new : List Hung) → HaveHeard ((told ++ told_under roster ticked) ++ told_under roster called) bells new
    → HaveHeard (told ++ (told_under roster ticked ++ told_under roster called)) bells new
rung_twice told roster ticked called bells new heard =
    subst (λ all. HaveHeard all bells new) (append_assoc told (told_under roster ticked) (told_under roster called)) heard

-- bells that had received some notices have received more
pub hears_on : (bells before after : List Hung) (more : List Told) → HaveHeardSome bells before → ((told : List Told) (bells : List Hung) → HaveHeard told bells before → HaveHeard (told ++ more) bells after)
    → HaveHeardSome bells after
hears_on bells before after more some heard = (some.0 ++ more, heard some.0 bells some.1)

-- ---- an item

-- an item was answered, its bells were rung, and its reply was written
pub answered_under : (roster : List RosterLine) (i : Item) (old new : DeskSeen) (before after : List Hung) (a : Answered) (reply : List ℕ) (ticked called : List Notice) → IsAskable i → AnswersItem 1 i old new a
    → ticked ≡ a.ticked → called ≡ a.called
    → ((told : List Told) (bells : List Hung) → HaveHeard told bells before → HaveHeard (told ++ (told_under roster ticked ++ told_under roster called)) bells after) → reply ≡ said_text a.outcome.said
    → IsAnsweredUnder roster i old new before after reply
answered_under roster i old new before after a reply ticked called askable given one two heard says =
    let g : Given = item_with given.choice 1 old.state i in
    record {
      choice = given.choice;
      counted = given.counted;
      asks = given.asks;
      state = given.is.its_state;
      says = says ∙ ap (λ (o : Outcome). said_text o.said) given.is.its_outcome;
      heard = λ told bells since.
          subst (λ (ns : List Notice). HaveHeard (told ++ (told_under roster g.ticked ++ told_under roster ns)) bells after) (two ∙ given.is.its_call)
          (subst (λ (ns : List Notice). HaveHeard (told ++ (told_under roster ns ++ told_under roster called)) bells after) (one ∙ given.is.its_tick) (heard told bells since));
      askable = askable;
    }

-- memory ran out at an item
pub begun_alone : (before after : KeptAt) (s t : State) (i : Item) → KeptLater before after → MayHaveBegun 1 i s t → AreGivenInPart 1 before after s (i ∷ []) t
begun_alone before after s t i over begun =
    at_next 1 before before after s (i ∷ []) s t (i ∷ []) [] i [] refl (none_so_far 1 before s (i ∷ []) refl) over begun

-- an item was answered, and memory ran out then
pub answered_alone : (before after : KeptAt) (s t : State) (i : Item) (c : Choice) → KeptBy before after c (asked_item c 1 s i) → t ≡ (item_with c 1 s i).state → AreGivenInPart 1 before after s (i ∷ []) t
answered_alone before after s t i c kept state =
    after_next 1 before before after s (i ∷ []) s t (i ∷ []) [] i [] c refl (none_so_far 1 before s (i ∷ []) refl) kept state

-- ---- one line after others

begun_more : (lane : ℕ) (left rest : List Item) (s t : State) → MayHaveBegunNext lane left s t → MayHaveBegunNext lane (left ++ rest) s t
begun_more lane (i ∷ left) rest s t begun = begun
begun_more lane [] [] s t begun = begun
begun_more lane [] (kind.Bad fault ∷ rest) s t begun = begun
begun_more lane [] (kind.Call at call ∷ rest) s t begun = inl begun

-- memory ran out at one part of the items that were left
pub in_part_on : (lane : ℕ) (before middle after : KeptAt) (s : State) (items : List Item) (t u : State) (left mine rest : List Item) (made : List Outcome) → left ≡ mine ++ rest
    → AreGivenSoFar lane before middle s items t left made → AreGivenInPart lane middle after t mine u → AreGivenInPart lane before after s items u
in_part_on lane before middle after s items t u left mine rest made is so_far part = record {
  front = so_far.front ++ part.front;
  left = part.left ++ rest;
  choices = so_far.choices ++ part.choices;
  whole =
      so_far.whole
      ∙ ap (λ is. so_far.front ++ is) (is ∙ ap (λ is. is ++ rest) part.whole ∙ append_assoc part.front part.left rest)
      ∙ sym (append_assoc so_far.front part.front (part.left ++ rest));
  kept = part.kept;
  counted = counted_on before.faults so_far.choices part.choices middle.faults part.kept.faults so_far.counted part.counted;
  stored = part.stored ∙ so_far.stored part.front part.choices;
  later = part.later;
  state =
      subst (λ (v : State). MayHaveBegunNext lane (part.left ++ rest) v u) (so_far.state part.front part.choices)
      (begun_more lane part.left rest (after_with lane t part.front part.choices) u part.state);
}

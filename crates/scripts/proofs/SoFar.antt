-- Lines of a script that are answered one after another, while others are left.
use Rattle.std.proofs.Common.{◌≡◌, ℕ, List, [], ◌∷◌, ◌++◌, append-nil, append_assoc, refl, sym, ap, ◌∙◌, subst, arith}
use Rattle.std.specs.List.{AllByRecursion}
use Rattle.std.specs.Prelude.{codes}
use Rattle.alerts.proofs.RungLaws.{rung_none}
use Rattle.alerts.specs.Ringing.{Hung}
use Rattle.desk.proofs.Choices.{counted_on, given_next, kept_by}
use Rattle.desk.proofs.InPart.{none_so_far, stopped}
use Rattle.desk.specs.InPart.{AreGivenInPart}
use Rattle.desk.specs.Keeping.{AreGivenSoFar, Choice, Counted, KeptAt, after_with, asked_all, asked_item, item_with, kept_at, outcomes_with}
use Rattle.desk.specs.Run.{outcome_text}
use Rattle.desk.specs.Seen.{DeskSeen}
use Rattle.desk_state.specs.Repeats.{IsAskable}
use Rattle.desk_state.specs.State.{State}
use Rattle.desk_state.specs.declared.lanes.Item.{Item}
use Rattle.desk_state.specs.declared.lanes.Outcome.{Outcome}
use Rattle.relief.specs.Seated.{HaveHeard, Told}
use Rattle.relief.specs.declared.lines.RosterLine.{RosterLine}
use Rattle.scripts.proofs.Answering.{in_part_on}
use Rattle.scripts.specs.Routes.{Placed, Taken, items_in, items_of, placed_in}
use Rattle.scripts.specs.ShiftLines.{AreReplied, IsAnsweredAs, IsAnsweredUnder, IsRepliedAtOnce}
use Rattle.scripts.specs.ShiftRuns.{told_of, told_with, woven}
use Rattle.scripts.specs.declared.routes.Routed.{Routed}
use Rattle.scripts.specs.declared.routes.Routed.TheVariants.{ToBoard, Replied}

-- Lines `all` are answered from a state `s`, and `left` are left of them. Whatever choices come later, the commits, the
-- outcomes, the state, the notices and the text so far and those of the rest are those of all lines.
pub record AreSoFar (before after : KeptAt) (s : State) (all : List Taken) (began : List Hung) (t : State) (left : List Taken) (bells : List Hung) (text : List ℕ) : Type 0 where
  pub made : List Outcome
  pub given : AreGivenSoFar 1 before after s (items_in all) t (items_in left) made
  pub choices : List Choice
  pub told : List Told
  pub counted : Counted before.faults choices after.faults
  pub stored : (later : List Choice) → after.stored ++ asked_all 1 t (items_in left) later ≡ before.stored ++ asked_all 1 s (items_in all) (choices ++ later)
  pub outcomes : (later : List Choice) → made ++ outcomes_with 1 t (items_in left) later ≡ outcomes_with 1 s (items_in all) (choices ++ later)
  pub state : (later : List Choice) → after_with 1 t (items_in left) later ≡ after_with 1 s (items_in all) (choices ++ later)
  pub notices : (later : List Choice) → told ++ told_with t (placed_in left) later ≡ told_with s (placed_in all) (choices ++ later)
  pub says : (more : List Outcome) → text ++ woven left more ≡ woven all (made ++ more)
  pub heard : HaveHeard told began bells
  pub askable : AllByRecursion IsAskable (items_in left) → AllByRecursion IsAskable (items_in all)

-- ---- before the first line

none_heard : (bells : List Hung) → HaveHeard [] bells bells
none_heard [] = tt
none_heard (b ∷ bells) = (rung_none b, none_heard bells)

pub none_answered : (before : KeptAt) (s : State) (all : List Taken) (bells : List Hung) (text : List ℕ) → text ≡ [] → AreSoFar before before s all bells s all bells text
none_answered before s all bells text none = record {
  made = [];
  given = none_so_far 1 before s (items_in all) refl;
  choices = [];
  told = [];
  counted = omega arith;
  stored = λ later. refl;
  outcomes = λ later. refl;
  state = λ later. refl;
  notices = λ later. refl;
  says = λ more. ap (λ x. x ++ woven all more) none;
  heard = none_heard bells;
  askable = λ each. each;
}

-- ---- one line more

module _ (before : KeptAt) (s : State) (all : List Taken) (began : List Hung) (old new : DeskSeen) (bells later_bells : List Hung) (text reply : List ℕ) (roster : List RosterLine) (rest : List Taken) where
  -- a line that got its reply at once
  replied_next : (reply_text : List ℕ) → IsRepliedAtOnce reply_text old new bells later_bells reply
      → AreSoFar before (kept_at old.keeper) s all began old.state ((record { routed = Replied reply_text; roster = roster }) ∷ rest) bells text
      → AreSoFar before (kept_at new.keeper) s all began new.state rest later_bells (text ++ (reply ++ codes "\n"))
  replied_next reply_text once far =
      let at_old : AreSoFar before (kept_at old.keeper) s all began old.state rest bells (text ++ (reply ++ codes "\n")) = record {
        made = far.made;
        given = far.given;
        choices = far.choices;
        told = far.told;
        counted = far.counted;
        stored = far.stored;
        outcomes = far.outcomes;
        state = far.state;
        notices = far.notices;
        says = λ more.
            ap (λ x. (text ++ (x ++ codes "\n")) ++ woven rest more) once.says
            ∙ append_assoc text (reply_text ++ codes "\n") (woven rest more)
            ∙ far.says more;
        heard = far.heard;
        askable = far.askable;
      } in
      subst (λ (d : DeskSeen). AreSoFar before (kept_at d.keeper) s all began d.state rest later_bells (text ++ (reply ++ codes "\n"))) (sym once.desk)
      (subst (λ hung. AreSoFar before (kept_at old.keeper) s all began old.state rest hung (text ++ (reply ++ codes "\n"))) (sym once.bells) at_old)

  -- a line that was answered on the board
  answered_next : (i : Item) → IsAnsweredUnder roster i old new bells later_bells reply
      → AreSoFar before (kept_at old.keeper) s all began old.state ((record { routed = ToBoard i; roster = roster }) ∷ rest) bells text
      → AreSoFar before (kept_at new.keeper) s all began new.state rest later_bells (text ++ (reply ++ codes "\n"))
  answered_next i one far =
      let c : Choice = one.choice in
      let o : Outcome = (item_with c 1 old.state i).outcome in
      let told : List Told = told_of roster (item_with c 1 old.state i) in
      let its : List Item = items_in rest in
      let places : List Placed = placed_in rest in
      record {
        made = far.made ++ o ∷ [];
        given =
            given_next 1 before (kept_at old.keeper) (kept_at new.keeper) s (items_in all) old.state new.state (i ∷ its) its i far.made (far.made ++ o ∷ []) c o
            refl far.given (kept_by old.keeper new.keeper c (asked_item c 1 old.state i) one.counted one.asks) refl one.state refl;
        choices = far.choices ++ c ∷ [];
        told = far.told ++ told;
        counted = counted_on before.faults far.choices (c ∷ []) old.keeper.health.faults new.keeper.health.faults far.counted one.counted;
        stored = λ later.
            ap (λ bs. bs ++ asked_all 1 new.state its later) one.asks.stored
            ∙ append_assoc (kept_at old.keeper).stored (asked_item c 1 old.state i) (asked_all 1 new.state its later)
            ∙ ap (λ (u : State). (kept_at old.keeper).stored ++ (asked_item c 1 old.state i ++ asked_all 1 u its later)) one.state
            ∙ far.stored (c ∷ later)
            ∙ ap (λ cs. before.stored ++ asked_all 1 s (items_in all) cs) (sym (append_assoc far.choices (c ∷ []) later));
        outcomes = λ later.
            append_assoc far.made (o ∷ []) (outcomes_with 1 new.state its later)
            ∙ ap (λ (u : State). far.made ++ o ∷ outcomes_with 1 u its later) one.state
            ∙ far.outcomes (c ∷ later)
            ∙ ap (λ cs. outcomes_with 1 s (items_in all) cs) (sym (append_assoc far.choices (c ∷ []) later));
        state = λ later.
            ap (λ (u : State). after_with 1 u its later) one.state
            ∙ far.state (c ∷ later)
            ∙ ap (λ cs. after_with 1 s (items_in all) cs) (sym (append_assoc far.choices (c ∷ []) later));
        notices = λ later.
            append_assoc far.told told (told_with new.state places later)
            ∙ ap (λ (u : State). far.told ++ (told ++ told_with u places later)) one.state
            ∙ far.notices (c ∷ later)
            ∙ ap (λ cs. told_with s (placed_in all) cs) (sym (append_assoc far.choices (c ∷ []) later));
        says = λ more.
            ap (λ x. (text ++ (x ++ codes "\n")) ++ woven rest more) one.says
            ∙ append_assoc text (outcome_text o) (woven rest more)
            ∙ far.says (o ∷ more)
            ∙ ap (λ os. woven all os) (sym (append_assoc far.made (o ∷ []) more));
        heard = one.heard far.told began far.heard;
        askable = λ each. far.askable (one.askable, each);
      }

  next_by : (routed : Routed) → IsAnsweredAs routed roster old new bells later_bells reply
      → AreSoFar before (kept_at old.keeper) s all began old.state ((record { routed = routed; roster = roster }) ∷ rest) bells text
      → AreSoFar before (kept_at new.keeper) s all began new.state rest later_bells (text ++ (reply ++ codes "\n"))
  next_by (Replied reply_text) is far = replied_next reply_text is far
  next_by (ToBoard i) is far = answered_next i is far

-- the next line was answered, and its reply written
pub line_answered : (before : KeptAt) (s : State) (all : List Taken) (began : List Hung) (old new : DeskSeen) (bells later_bells : List Hung) (text reply more : List ℕ) (routed : Routed) (roster : List RosterLine) (left rest : List Taken)
    → left ≡ (record { routed = routed; roster = roster }) ∷ rest → AreSoFar before (kept_at old.keeper) s all began old.state left bells text → IsAnsweredAs routed roster old new bells later_bells reply
    → more ≡ text ++ (reply ++ codes "\n") → AreSoFar before (kept_at new.keeper) s all began new.state rest later_bells more
line_answered before s all began old new bells later_bells text reply more routed roster left rest is far answered pushed =
    subst (λ x. AreSoFar before (kept_at new.keeper) s all began new.state rest later_bells x) (sym pushed)
    (next_by before s all began old new bells later_bells text reply roster rest routed answered
    (subst (λ lines. AreSoFar before (kept_at old.keeper) s all began old.state lines bells text) is far))

-- ---- where memory runs out

items_next : (routed : Routed) (roster : List RosterLine) (rest : List Taken) → items_in ((record { routed = routed; roster = roster }) ∷ rest) ≡ items_of routed ++ items_in rest
items_next (Replied text) roster rest = refl
items_next (ToBoard i) roster rest = refl

-- at the next line
pub line_stopped : (before middle after : KeptAt) (s : State) (all : List Taken) (began : List Hung) (t u : State) (bells : List Hung) (text : List ℕ) (routed : Routed) (roster : List RosterLine) (left rest : List Taken)
    → left ≡ (record { routed = routed; roster = roster }) ∷ rest → AreSoFar before middle s all began t left bells text → AreGivenInPart 1 middle after t (items_of routed) u
    → AreGivenInPart 1 before after s (items_in all) u
line_stopped before middle after s all began t u bells text routed roster left rest is far part =
    in_part_on 1 before middle after s (items_in all) t u (items_in left) (items_of routed) (items_in rest) far.made (ap items_in is ∙ items_next routed roster rest) far.given part

-- once it was answered
pub stopped_after : (before after : KeptAt) (s : State) (all : List Taken) (began : List Hung) (t : State) (left : List Taken) (bells : List Hung) (text : List ℕ)
    → AreSoFar before after s all began t left bells text → AreGivenInPart 1 before after s (items_in all) t
stopped_after before after s all began t left bells text far = stopped 1 before after s (items_in all) t (items_in left) far.made far.given

-- ---- after the last line

all_answered : (before after : KeptAt) (s : State) (all : List Taken) (began : List Hung) (t : State) (bells : List Hung) (text : List ℕ) → AreSoFar before after s all began t [] bells text
    → AreReplied before after s all t began bells text
all_answered before after s all began t bells text far = record {
  made = far.made;
  given = record {
    choices = far.choices;
    counted = far.counted;
    stored = sym (append-nil after.stored) ∙ far.stored [] ∙ ap (λ cs. before.stored ++ asked_all 1 s (items_in all) cs) (append-nil far.choices);
    outcomes = sym (append-nil far.made) ∙ far.outcomes [] ∙ ap (λ cs. outcomes_with 1 s (items_in all) cs) (append-nil far.choices);
    state = far.state [] ∙ ap (λ cs. after_with 1 s (items_in all) cs) (append-nil far.choices);
  };
  says = sym (append-nil text) ∙ far.says [] ∙ ap (λ os. woven all os) (append-nil far.made);
  heard =
      subst (λ told. HaveHeard told began bells)
      (sym (append-nil far.told) ∙ far.notices [] ∙ ap (λ cs. told_with s (placed_in all) cs) (append-nil far.choices)) far.heard;
  askable = far.askable tt;
}

pub lines_replied : (before after : KeptAt) (s : State) (all : List Taken) (began : List Hung) (t : State) (left : List Taken) (bells : List Hung) (text : List ℕ) → left ≡ []
    → AreSoFar before after s all began t left bells text → AreReplied before after s all t began bells text
lines_replied before after s all began t left bells text none far =
    all_answered before after s all began t bells text (subst (λ lines. AreSoFar before after s all began t lines bells text) none far)

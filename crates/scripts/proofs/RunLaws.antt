-- The run of a whole script.
use Rattle.std.proofs.Common.{◌≡◌, ℕ, ◌≤◌, List, [], ◌∷◌, ◌++◌, map, refl, ap, ◌∙◌, subst, arith}
use Rattle.std.specs.List.{concat}
use Rattle.alerts.specs.Ringing.{Hung}
use Rattle.desk.proofs.Choices.{quiet_after, quiet_outcomes, rise_lower, rise_none, rise_within}
use Rattle.desk.proofs.InPart.{given_whole}
use Rattle.desk.proofs.Positions.{history_lower}
use Rattle.desk.specs.InPart.{AreGivenInPart}
use Rattle.desk.specs.Keeping.{Counted, KeptAt, numbers_of}
use Rattle.desk.specs.Run.{lane_with, lines_of}
use Rattle.desk_state.specs.Lanes.{after_items, outcomes}
use Rattle.desk_state.specs.Sound.{IsBoard}
use Rattle.desk_state.specs.State.{State}
use Rattle.desk_state.specs.Texts.{closing}
use Rattle.desk_state.specs.declared.lanes.Item.{Item}
use Rattle.desk_state.specs.declared.lanes.Outcome.{Outcome}
use Rattle.relief.specs.Roster.{first_roster}
use Rattle.relief.specs.declared.lines.RosterLine.{RosterLine}
use Rattle.scripts.proofs.OneLane.{one_lane_history}
use Rattle.scripts.proofs.TellingLaws.{run_tells}
use Rattle.scripts.specs.RosterTexts.{roster_text}
use Rattle.scripts.specs.Routes.{Taken, items_in, placed_in, roster_after_all, taken_all}
use Rattle.scripts.specs.ShiftLines.{AreReplied, IsShifts}
use Rattle.scripts.specs.ShiftRuns.{IsSeatedRun, IsShiftRun, IsShiftRunInPart, last_roster, shift_text, shifts_of, woven}

-- ---- the lines of a script

module _ (s : State) (script : List ℕ) (first : List RosterLine) (lines : List (List ℕ)) (one : first ≡ first_roster s.tables) (two : lines ≡ lines_of script) where
  pub begun_as : taken_all s.tables first lines ≡ shifts_of s script
  begun_as = ap (λ (r : List RosterLine). taken_all s.tables r lines) one ∙ ap (taken_all s.tables (first_roster s.tables)) two

  pub ended_as : roster_after_all s.tables first lines ≡ last_roster s script
  ended_as = ap (λ (r : List RosterLine). roster_after_all s.tables r lines) one ∙ ap (roster_after_all s.tables (first_roster s.tables)) two

  -- memory ran out among the lines
  pub stopped_in : (before after : KeptAt) (t : State) → AreGivenInPart 1 before after s (items_in (taken_all s.tables first lines)) t → IsShiftRunInPart before after s script t
  stopped_in before after t part = subst (λ (ls : List Taken). AreGivenInPart 1 before after s (items_in ls) t) begun_as part

  -- memory ran out once all were answered
  pub stopped_at_end : (before after : KeptAt) (t : State) (old new : List Hung) (replies : List ℕ) → AreReplied before after s (taken_all s.tables first lines) t old new replies → IsShiftRunInPart before after s script t
  stopped_at_end before after t old new replies replied =
      stopped_in before after t (given_whole 1 before after s (items_in (taken_all s.tables first lines)) (items_in (taken_all s.tables first lines)) t replied.made refl replied.given)

-- ---- the whole run

-- lines that were answered, and the text with its ending
pub are_shifts : (before after : KeptAt) (s : State) (script : List ℕ) (lines : List Taken) (t : State) (roster : List RosterLine) (old new : List Hung) (replies text : List ℕ) → lines ≡ shifts_of s script
    → roster ≡ last_roster s script → AreReplied before after s lines t old new replies → text ≡ replies ++ (closing t ++ roster_text roster) → IsShifts before after s script t text old new
are_shifts before after s script lines t roster old new replies text is sits replied pushed =
    let all : AreReplied before after s (shifts_of s script) t old new replies = subst (λ ls. AreReplied before after s ls t old new replies) is replied in
    record {
      made = all.made;
      given = all.given;
      askable = all.askable;
      says =
          pushed
          ∙ ap (λ x. x ++ (closing t ++ roster_text roster)) all.says
          ∙ ap (λ r. woven (shifts_of s script) all.made ++ (closing t ++ roster_text r)) sits;
      heard = all.heard;
    }

module _ (before after : KeptAt) (s : State) (script : List ℕ) (t : State) (text : List ℕ) (old new : List Hung) (run : IsShifts before after s script t text old new) where
  abbrev its : List Item
  its = items_in (shifts_of s script)

  steady_text : after.faults ≡ before.faults → text ≡ shift_text (shifts_of s script) (outcomes 1 s its) (after_items 1 s its) (last_roster s script)
  steady_text same =
      let quiet : concat (map numbers_of run.given.choices) ≡ [] = rise_none before.faults (concat (map numbers_of run.given.choices)) (subst (λ (n : ℕ). Counted before.faults run.given.choices n) same run.given.counted) in
      run.says
      ∙ ap (λ (os : List Outcome). shift_text (shifts_of s script) os t (last_roster s script)) (run.given.outcomes ∙ quiet_outcomes 1 s its run.given.choices quiet)
      ∙ ap (λ (u : State). shift_text (shifts_of s script) (outcomes 1 s its) u (last_roster s script)) (run.given.state ∙ quiet_after 1 s its run.given.choices quiet)

  pub is_seated_run : (opening : State) → IsBoard opening s → IsSeatedRun opening before after s script t text old new
  is_seated_run opening board = record {
    run = record {
      made = run.made;
      given = run.given;
      says = run.says;
      history = one_lane_history before after opening s its t run.made board run.askable run.given;
      steady = steady_text;
    };
    bells = record {
      heard = run.heard;
      tells = run_tells opening s (placed_in (shifts_of s script)) run.given.choices t board run.askable run.given.state;
    };
  }

-- ---- the same where the keeper's faults are counted from before

pub shift_run_lower : (less : ℕ) (before after : KeptAt) (s : State) (script : List ℕ) (t : State) (text : List ℕ) → less ≤ before.faults → IsShiftRun before after s script t text
    → IsShiftRun (record before { faults = less }) after s script t text
shift_run_lower less before after s script t text under run =
    let numbers : List ℕ = concat (map numbers_of run.given.choices) in
    let within = rise_within before.faults numbers after.faults run.given.counted in
    record {
      made = run.made;
      given = record { choices = run.given.choices; counted = rise_lower less before.faults numbers after.faults under run.given.counted; stored = run.given.stored; outcomes = run.given.outcomes; state = run.given.state };
      says = run.says;
      history = history_lower less before.faults after.faults s t (lane_with (items_in (shifts_of s script)) run.made ∷ []) under run.history;
      steady = λ same. run.steady (omega (arith, same, under, within));
    }

pub seated_run_lower : (less : ℕ) (before after : KeptAt) (opening s : State) (script : List ℕ) (t : State) (text : List ℕ) (old new : List Hung) → less ≤ before.faults → IsSeatedRun opening before after s script t text old new
    → IsSeatedRun opening (record before { faults = less }) after s script t text old new
unfolding shift_run_lower
seated_run_lower less before after opening s script t text old new under run = record {
  run = shift_run_lower less before after s script t text under run.run;
  bells = run.bells;
}

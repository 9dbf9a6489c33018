-- The run of a shift script: the outcomes of its items in the board's one history, its text, and what the bells have
-- received.
use Rattle.std.specs.Prelude.{◌≡◌, ℕ, true, List, [], ◌∷◌, ◌++◌, codes, filter, map, take, Some}
use Rattle.alerts.specs.Ringing.{Hung}
use Rattle.alerts.specs.declared.notices.Notice.{Notice}
use Rattle.desk.specs.Heard.{told_by_all}
use Rattle.desk.specs.InPart.{AreGivenInPart}
use Rattle.desk.specs.Keeping.{AreGiven, Choice, Given, KeptAt, item_with, no_choice}
use Rattle.desk.specs.Positions.{AreOneHistory}
use Rattle.desk.specs.Run.{lane_with, lines_of, outcome_text}
use Rattle.desk_state.specs.Lanes.{after_items, outcomes}
use Rattle.desk_state.specs.State.{State}
use Rattle.desk_state.specs.Texts.{closing}
use Rattle.desk_state.specs.declared.lanes.Outcome.{Outcome}
use Rattle.ops_tables.specs.Names.{has_name}
use Rattle.ops_tables.specs.Tables.{TableRows}
use Rattle.relief.specs.Handovers.{IsRosterAfter, accepted, sitter_after}
use Rattle.relief.specs.Roster.{HasEachOnce, desks_of, first_roster, is_line_of, sitter_at}
use Rattle.relief.specs.Seated.{HaveHeard, Told, told_under}
use Rattle.relief.specs.declared.handover.Handover.{Handover}
use Rattle.relief.specs.declared.lines.RosterLine.{RosterLine}
use Rattle.scripts.specs.RosterTexts.{roster_text}
use Rattle.scripts.specs.Routes.{Placed, Taken, handovers_in, items_in, placed_in, roster_after_all, taken_all}
use Rattle.scripts.specs.declared.routes.Routed.{Routed}
use Rattle.scripts.specs.declared.routes.Routed.TheVariants.{ToBoard, Replied}

-- ---- the text

-- The line of what a line comes to, and then the lines of the rest. An item takes the next outcome.
abbrev pub woven_by : Routed → List Outcome → (List Outcome → List ℕ) → List ℕ
woven_by (Replied text) made rest = (text ++ codes "\n") ++ rest made
woven_by (ToBoard i) [] rest = rest []
woven_by (ToBoard i) (o ∷ made) rest = outcome_text o ++ rest made

-- the replies to lines in their order: those given at once, and the outcomes of the items
abbrev pub woven : List Taken → List Outcome → List ℕ
woven [] made = []
woven (line ∷ lines) made = woven_by line.routed made (λ more. woven lines more)

-- the replies, the closing text of the board, and the roster
abbrev pub shift_text : List Taken → List Outcome → State → List RosterLine → List ℕ
shift_text lines made t roster = woven lines made ++ (closing t ++ roster_text roster)

-- ---- the notices

-- the notices of an answer: those of its tick, and those of its call
abbrev pub told_of : List RosterLine → Given → List Told
told_of roster g = told_under roster g.ticked ++ told_under roster g.called

-- the notices alone
abbrev pub notices_in : List Told → List Notice
notices_in told = map (λ t. t.notice) told

-- The notices of items, each with the roster when it was made. The keeper stores every step of the items beyond the
-- last choice.
abbrev pub told_with : State → List Placed → List Choice → List Told
told_with s [] choices = []
told_with s (p ∷ rest) [] = told_of p.roster (item_with no_choice 1 s p.item) ++ told_with (item_with no_choice 1 s p.item).state rest []
told_with s (p ∷ rest) (c ∷ cs) = told_of p.roster (item_with c 1 s p.item) ++ told_with (item_with c 1 s p.item).state rest cs

-- ---- the run

-- The lines of a script that begins in a state.
abbrev pub shifts_of : State → List ℕ → List Taken
shifts_of s script = taken_all s.tables (first_roster s.tables) (lines_of script)

-- the roster at the end of the script
abbrev pub last_roster : State → List ℕ → List RosterLine
last_roster s script = roster_after_all s.tables (first_roster s.tables) (lines_of script)

-- A run of a shift script from one state to another, between two moments of the keeper. The items among its lines are
-- answered in lane 1, in their order, and the text has their outcomes and all other replies. The outcomes of the items,
-- and of nothing else, form the board's one history from the first state to the last. The keeper's commits are those of
-- the items.
pub record IsShiftRun (before after : KeptAt) (s : State) (script : List ℕ) (t : State) (text : List ℕ) : Type 0 where
  pub made : List Outcome
  pub given : AreGiven 1 before after s (items_in (shifts_of s script)) t made
  pub says : text ≡ shift_text (shifts_of s script) made t (last_roster s script)
  pub history : AreOneHistory before.faults after.faults s (lane_with (items_in (shifts_of s script)) made ∷ []) t
  -- if the keeper's count didn't rise, every step was stored
  pub steady : after.faults ≡ before.faults
      → text ≡ shift_text (shifts_of s script) (outcomes 1 s (items_in (shifts_of s script))) (after_items 1 s (items_in (shifts_of s script))) (last_roster s script)

-- Bells that were the `old` ones have received exactly the notices of the desks at which their persons sat when the
-- notices were made. These notices are those of the entries that the run adds to the history since the opening state.
pub record AreRungAtDesks (opening s : State) (script : List ℕ) (choices : List Choice) (t : State) (old new : List Hung) : Type 0 where
  pub heard : HaveHeard (told_with s (placed_in (shifts_of s script)) choices) old new
  pub tells : told_by_all opening t.entries ≡ told_by_all opening s.entries ++ notices_in (told_with s (placed_in (shifts_of s script)) choices)

-- A run of a shift script on a desk with this opening state, and what the bells have received.
pub record IsSeatedRun (opening : State) (before after : KeptAt) (s : State) (script : List ℕ) (t : State) (text : List ℕ) (old new : List Hung) : Type 0 where
  pub run : IsShiftRun before after s script t text
  pub bells : AreRungAtDesks opening s script run.given.choices t old new

-- Memory ran out in a run of a shift script. A prefix of its items was answered. Of the next item at most the tick was
-- made.
abbrev pub IsShiftRunInPart : KeptAt → KeptAt → State → List ℕ → State → Type 0
IsShiftRunInPart before after s script t = AreGivenInPart 1 before after s (items_in (shifts_of s script)) t

-- ---- who sits at each desk

-- Exactly one line of the roster is of this desk. It has whoever accepted the desk last, or the desk's namesake.
pub record HasOneSitter (made : List Handover) (roster : List RosterLine) (desk : List ℕ) : Type 0 where
  pub line : RosterLine
  pub alone : filter (is_line_of desk) roster ≡ line ∷ []
  pub sits : line.sitter ≡ sitter_after made desk
  pub found : sitter_at roster desk ≡ Some line.sitter

-- Each desk of the tables has exactly one sitter, and so has each release whose holder is a desk of the tables.
abbrev pub HaveOneSitter : TableRows → List Handover → List RosterLine → Type 0
HaveOneSitter t made roster = (desk : List ℕ) → has_name (desks_of t) desk ≡ true → HasOneSitter made roster desk

-- those handovers of lines that the roster accepts
abbrev pub accepted_in : TableRows → List (List ℕ) → List Handover
accepted_in t lines = accepted t (first_roster t) (handovers_in t lines)

-- The roster after any number of the lines. It has each desk once, and at each desk whoever accepted it last, or its
-- namesake.
pub record IsSeated (t : TableRows) (lines : List (List ℕ)) (roster : List RosterLine) : Type 0 where
  pub follows : IsRosterAfter (desks_of t) (accepted_in t lines) roster
  pub once : HasEachOnce (desks_of t)
  pub one : HaveOneSitter t (accepted_in t lines) roster

abbrev pub AreSeatedAlways : TableRows → List ℕ → Type 0
AreSeatedAlways t script =
    (n : ℕ) → IsSeated t (take n (lines_of script)) (roster_after_all t (first_roster t) (take n (lines_of script)))

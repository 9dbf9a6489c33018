-- A run of a script of planned redispatches, over a keeper that may fail to store changes.
use Rattle.std.specs.Prelude.{◌≡◌, ℕ, nat_lt, Bool, true, false, List, [], ◌∷◌, ◌++◌, length, map, codes, Option, None, Some, Result, Ok, Err}
use Rattle.asks.specs.declared.bad_call.BadCall.{BadCall}
use Rattle.asks.specs.declared.reply.Reply.{Reply}
use Rattle.asks.specs.declared.reply.Reply.TheVariants.{Done, Seen, Refused}
use Rattle.desk.specs.Keeping.{Choice, no_choice, Counted, KeptAt, KeptLater, adds, asked_if, made_with, ticked_with}
use Rattle.desk.specs.Run.{lines_of, said_text}
use Rattle.desk.specs.Settled.{MayHaveTicked}
use Rattle.desk_json.specs.LineReplies.{line_refusal_text}
use Rattle.desk_json.specs.PlannedLines.{planned_or_fault}
use Rattle.desk_json.specs.declared.planned.PlannedLine.{PlannedLine}
use Rattle.desk_json.specs.declared.planned.PlannedLine.TheVariants.{Asked, File, Check, Turn}
use Rattle.desk_state.specs.Lanes.{said_of}
use Rattle.desk_state.specs.State.{State}
use Rattle.desk_state.specs.Step.{Stepped, answer_call, tick_to}
use Rattle.desk_state.specs.Texts.{closing}
use Rattle.desk_state.specs.declared.lanes.Said.TheVariants as said
use Rattle.redispatch.specs.Filed.{final_plan, once_filed}
use Rattle.redispatch.specs.declared.planned.Filed.{Filed}
use Rattle.scripts.specs.PlannedTests.{replies, comes_to}
use Rattle.scripts.specs.declared.planned_said.Came.{Came}
use Rattle.scripts.specs.declared.planned_said.Came.TheVariants.{Says, Makes}
use Rattle.scripts.specs.declared.planned_said.LineOutcome.{LineOutcome}
use Rattle.scripts.specs.declared.planned_said.LineSaid.{LineSaid}
use Rattle.scripts.specs.declared.planned_said.LineSaid.TheVariants as line

-- ---- the lines

-- a line, or the first fault of a malformed one
abbrev pub PlannedItem : Type 0
PlannedItem = Result PlannedLine BadCall

-- the lines of a script
abbrev pub planned_items : List (List ℕ) → List PlannedItem
planned_items lines = map planned_or_fault lines

abbrev pub line_at : PlannedLine → ℕ
line_at (Asked at call) = at
line_at (File at actor key release leg plan) = at
line_at (Check at actor key release) = at
line_at (Turn at actor key number release) = at

-- ---- the answer to a line

-- what the desk says to a line, and the state after it
pub record LineGiven : Type 0 where
  pub outcome : LineOutcome
  pub state : State

-- the answer of a line that comes to something in a state
abbrev pub given_at : State → LineSaid → State → LineGiven
given_at u says t = record { outcome = record { position = length u.entries; said = says }; state = t }

-- A call, or the amendment of a turn, is made.
abbrev pub made_of : Option ℕ → State → Came → LineGiven
made_of fault u (Says says) = given_at u says u
made_of fault u (Makes call) = given_at u (line.Said (said_of (made_with fault 1 u call).reply)) (made_with fault 1 u call).state

-- If the tick was refused, the line gets that refusal, and comes to nothing else.
abbrev pub once_ticked : Option ℕ → Option Reply → State → Came → LineGiven
once_ticked fault None u came = made_of fault u came
once_ticked fault (Some reply) u came = given_at u (replies reply) u

abbrev pub unticked : State → Stepped
unticked s = record { reply = None; state = s; notices = [] }

-- the tick that comes before a line with a later moment
abbrev pub ticked_if : Bool → Option ℕ → State → ℕ → Stepped
ticked_if false fault s at = unticked s
ticked_if true fault s at = ticked_with fault 1 s at

abbrev pub ticked_before : Option ℕ → State → ℕ → Stepped
ticked_before fault s at = ticked_if (nat_lt s.moment at) fault s at

-- after its tick, a line is answered by what it comes to in the state then
abbrev pub after_tick : Option ℕ → Stepped → List Filed → PlannedLine → LineGiven
after_tick fault t planned l = once_ticked fault t.reply t.state (comes_to t.state planned l)

abbrev pub bad_line : State → BadCall → LineGiven
bad_line s fault = given_at s (line.Said (said.Bad fault)) s

-- the answer to a line under a choice of the keeper's failures
abbrev pub line_with : Choice → State → List Filed → PlannedItem → LineGiven
line_with c s planned (Err fault) = bad_line s fault
line_with c s planned (Ok l) = after_tick c.call (ticked_before c.tick s (line_at l)) planned l

-- ---- the commits that are requested

-- A line that comes to a call requests the commit of that call, if it adds an entry. The call of a turn is its amendment.
-- A line that comes to anything else requests none.
abbrev pub asked_of : Option ℕ → State → Came → List Bool
asked_of fault u (Says says) = []
asked_of fault u (Makes call) = asked_if (adds u (answer_call u 1 call)) fault

-- If the tick was refused, the line requests no other commit.
abbrev pub asked_once : Option ℕ → Option Reply → State → Came → List Bool
asked_once fault None u came = asked_of fault u came
asked_once fault (Some reply) u came = []

-- the commit of the tick that comes before a line with a later moment
abbrev pub asked_later : Bool → Option ℕ → State → ℕ → List Bool
asked_later false fault s at = []
asked_later true fault s at = asked_if (adds s (tick_to s 1 at)) fault

abbrev pub asked_before : Option ℕ → State → ℕ → List Bool
asked_before fault s at = asked_later (nat_lt s.moment at) fault s at

-- after its tick, a line requests the commit of what it comes to in the state then
abbrev pub asked_after : Option ℕ → Stepped → List Filed → PlannedLine → List Bool
asked_after fault t planned l = asked_once fault t.reply t.state (comes_to t.state planned l)

-- The commits of a line under a choice, each with whether it is stored: that of its tick, then that of its call.
abbrev pub asked_line : Choice → State → List Filed → PlannedItem → List Bool
asked_line c s planned (Err fault) = []
asked_line c s planned (Ok l) = asked_before c.tick s (line_at l) ++ asked_after c.call (ticked_before c.tick s (line_at l)) planned l

-- ---- the plans that lines filed

abbrev pub is_done_reply : Reply → Bool
is_done_reply (Done what) = true
is_done_reply (Seen text) = false
is_done_reply (Refused why) = false

abbrev pub is_done : LineSaid → Bool
is_done (line.Said (said.Reply reply)) = is_done_reply reply
is_done (line.Said (said.Bad fault)) = false
is_done (line.Refused why) = false

abbrev pub filed_if : Bool → Filed → List Filed → List Filed
filed_if false f planned = planned
filed_if true f planned = once_filed f planned

-- the plans after a line and what the desk said to it: a line that files a plan, and that the desk accepted, files it
abbrev pub filed_by_line : PlannedLine → LineSaid → List Filed → List Filed
filed_by_line (Asked at call) says planned = planned
filed_by_line (File at actor key release leg plan) says planned = filed_if (is_done says) (final_plan release leg plan) planned
filed_by_line (Check at actor key release) says planned = planned
filed_by_line (Turn at actor key number release) says planned = planned

abbrev pub filed_by : PlannedItem → LineSaid → List Filed → List Filed
filed_by (Err fault) says planned = planned
filed_by (Ok l) says planned = filed_by_line l says planned

-- the plans after lines and their outcomes
abbrev pub filed_in : List Filed → List PlannedItem → List LineOutcome → List Filed
filed_in planned [] outcomes = planned
filed_in planned (i ∷ rest) [] = planned
filed_in planned (i ∷ rest) (o ∷ os) = filed_in (filed_by i o.said planned) rest os

-- ---- the run

-- the keeper stores every step beyond the last choice
abbrev pub first_choice : List Choice → Choice
first_choice [] = no_choice
first_choice (c ∷ cs) = c

abbrev pub later_choices : List Choice → List Choice
later_choices [] = []
later_choices (c ∷ cs) = cs

-- the outcomes of lines, each under its choice
abbrev pub lines_with : State → List Filed → List PlannedItem → List Choice → List LineOutcome
lines_with s planned [] choices = []
lines_with s planned (i ∷ rest) choices =
    (line_with (first_choice choices) s planned i).outcome
    ∷ lines_with (line_with (first_choice choices) s planned i).state (filed_by i (line_with (first_choice choices) s planned i).outcome.said planned) rest (later_choices choices)

-- the state after the lines
abbrev pub after_lines : State → List Filed → List PlannedItem → List Choice → State
after_lines s planned [] choices = s
after_lines s planned (i ∷ rest) choices =
    after_lines (line_with (first_choice choices) s planned i).state (filed_by i (line_with (first_choice choices) s planned i).outcome.said planned) rest (later_choices choices)

-- the commits of the lines, each line under its choice
abbrev pub asked_lines : State → List Filed → List PlannedItem → List Choice → List Bool
asked_lines s planned [] choices = []
asked_lines s planned (i ∷ rest) choices =
    asked_line (first_choice choices) s planned i
    ++ asked_lines (line_with (first_choice choices) s planned i).state (filed_by i (line_with (first_choice choices) s planned i).outcome.said planned) rest (later_choices choices)

-- ---- the text

abbrev pub line_text : LineSaid → List ℕ
line_text (line.Said says) = said_text says
line_text (line.Refused why) = line_refusal_text why

abbrev pub outcome_text : LineOutcome → List ℕ
outcome_text o = line_text o.said ++ codes "\n"

abbrev pub lines_text : List LineOutcome → List ℕ
lines_text [] = []
lines_text (o ∷ rest) = outcome_text o ++ lines_text rest

-- A run of lines from one state to another, under some choices that the keeper's counts allow. Its commits are those of
-- the lines, in order, and each failed exactly where a choice says so. Nothing is filed before the first line. The text
-- has a line for each, then the closing text.
pub record IsPlannedRunOf (before after : KeptAt) (s : State) (items : List PlannedItem) (t : State) (text : List ℕ) : Type 0 where
  pub choices : List Choice
  pub counted : Counted before.faults choices after.faults
  pub stored : after.stored ≡ before.stored ++ asked_lines s [] items choices
  pub says : text ≡ lines_text (lines_with s [] items choices) ++ closing t
  pub state : t ≡ after_lines s [] items choices
  -- if the keeper's count didn't rise, every step was stored
  pub steady : after.faults ≡ before.faults → text ≡ lines_text (lines_with s [] items []) ++ closing (after_lines s [] items [])

-- a run of a script
abbrev pub IsPlannedRun : KeptAt → KeptAt → State → List ℕ → State → List ℕ → Type 0
IsPlannedRun before after s script t text = IsPlannedRunOf before after s (planned_items (lines_of script)) t text

-- ---- in part

-- memory ran out at a line: at most its tick was made
abbrev pub MayHaveBegunLine : List PlannedItem → State → State → Type 0
MayHaveBegunLine [] s t = t ≡ s
MayHaveBegunLine (Err fault ∷ rest) s t = t ≡ s
MayHaveBegunLine (Ok l ∷ rest) s t = MayHaveTicked 1 (line_at l) s t

-- Memory ran out among lines. A prefix of them was answered. Of the next line at most the tick was made.
pub record IsPlannedInPartOf (before after : KeptAt) (s : State) (items : List PlannedItem) (t : State) : Type 0 where
  pub front : List PlannedItem
  pub left : List PlannedItem
  pub choices : List Choice
  pub whole : items ≡ front ++ left
  -- what the keeper had come to after the prefix
  pub kept : KeptAt
  pub counted : Counted before.faults choices kept.faults
  pub stored : kept.stored ≡ before.stored ++ asked_lines s [] front choices
  pub later : KeptLater kept after
  pub state : MayHaveBegunLine left (after_lines s [] front choices) t

abbrev pub IsPlannedInPart : KeptAt → KeptAt → State → List ℕ → State → Type 0
IsPlannedInPart before after s script t = IsPlannedInPartOf before after s (planned_items (lines_of script)) t

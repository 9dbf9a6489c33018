-- The answer to a line, as code returns it.
use Rattle.std.specs.Prelude.{◌≡◌, false, List, [], ◌∷◌, ◌++◌, Option}
use Rattle.asks.specs.declared.reply.Reply.{Reply}
use Rattle.desk.specs.Keeping.{Choice, Counted, KeptAt}
use Rattle.desk_state.specs.State.{State}
use Rattle.desk_state.specs.Step.{Stepped}
use Rattle.redispatch.specs.declared.planned.Filed.{Filed}
use Rattle.scripts.specs.PlannedRuns.{PlannedItem, LineGiven, asked_line, line_with, filed_by, is_done_reply}
use Rattle.scripts.specs.declared.planned_lines.LineAnswered.{LineAnswered}
use Rattle.scripts.specs.declared.planned_said.Came.{Came}
use Rattle.scripts.specs.declared.planned_said.Came.TheVariants.{Says, Makes}
use Rattle.scripts.specs.declared.planned_said.LineOutcome.{LineOutcome}
use Rattle.scripts.specs.declared.planned_said.LineSaid.{LineSaid}

-- the reply of a tick and the state after it
pub record IsTicked (reply : Option Reply) (s : State) (t : Stepped) : Type 0 where
  pub reply_is : reply ≡ t.reply
  pub state_is : s ≡ t.state

-- the outcome and the state after it are those of the answer
pub record IsLineGiven (o : LineOutcome) (s : State) (g : LineGiven) : Type 0 where
  pub outcome_is : o ≡ g.outcome
  pub state_is : s ≡ g.state

-- what the line came to was said
abbrev pub IsSaidOf : Came → LineSaid → Type 0
IsSaidOf (Says says) x = x ≡ says
IsSaidOf (Makes call) x = Unit {0}

-- the reply isn't that to an accepted command
abbrev pub IsNotDone : Reply → Type 0
IsNotDone reply = is_done_reply reply ≡ false

-- at which steps of the line the keeper failed
abbrev pub choice_of : LineAnswered → Choice
choice_of r = record { tick = r.tick; call = r.call }

-- The answer to a line, and the plans filed after it, under some choice that the keeper's counts allow, with the line's
-- commits.
pub record IsLineAnswered (before after : KeptAt) (s : State) (planned : List Filed) (i : PlannedItem) (t : State) (filed : List Filed) (o : LineOutcome) : Type 0 where
  pub choice : Choice
  pub counted : Counted before.faults (choice ∷ []) after.faults
  pub stored : after.stored ≡ before.stored ++ asked_line choice s planned i
  pub outcome_is : o ≡ (line_with choice s planned i).outcome
  pub state_is : t ≡ (line_with choice s planned i).state
  pub filed_is : filed ≡ filed_by i o.said planned

-- The text of a run: a line for each item, then the closing text.
use Rattle.std.specs.Prelude.{◌≡◌, ℕ, List, [], ◌∷◌, ◌++◌, map, codes, Result, Ok, Err}
use Rattle.desk_io.specs.Runs.{runs_between}
use Rattle.asks.specs.declared.bad_call.BadCall.{BadCall}
use Rattle.asks.specs.declared.call.Call.{Call}
use Rattle.desk_json.specs.Faults.{line_or_fault}
use Rattle.desk_json.specs.Replies.{reply_text, bad_text}
use Rattle.desk_state.specs.declared.lanes.Item.{Item}
use Rattle.desk_state.specs.declared.lanes.Item.TheVariants as item
use Rattle.desk_state.specs.declared.lanes.Outcome.{Outcome}
use Rattle.desk_state.specs.declared.lanes.Said.{Said}
use Rattle.desk_state.specs.declared.lanes.Said.TheVariants as said
use Rattle.desk_state.specs.State.{State}
use Rattle.desk_state.specs.Lanes.{outcomes, after_items}
use Rattle.desk_state.specs.Texts.{closing}
use Rattle.desk.specs.Keeping.{Choice, Counted, KeptAt, after_with, asked_all, outcomes_with}

-- the nonempty lines of a script
abbrev pub lines_of : List ℕ → List (List ℕ)
lines_of bytes = runs_between (10 ∷ []) bytes

-- a call at its moment, or the first fault of a malformed line
abbrev pub item_of : Result (ℕ × Call) BadCall → Item
item_of (Err fault) = item.Bad fault
item_of (Ok line) = item.Call line.0 line.1

-- the items of lines
abbrev pub items_of : List (List ℕ) → List Item
items_of lines = map (λ line. item_of (line_or_fault line)) lines

-- the model of a lane: its items, and their outcomes so far
pub record LaneShown : Type 0 where
  pub items : List Item
  pub outcomes : List Outcome

abbrev pub lane_with : List Item → List Outcome → LaneShown
lane_with items outcomes = record { items = items; outcomes = outcomes }

-- the JSON of a reply, or of the fault of a malformed line
abbrev pub said_text : Said → List ℕ
said_text (said.Reply reply) = reply_text reply
said_text (said.Bad fault) = bad_text fault

-- the line of an outcome
abbrev pub outcome_text : Outcome → List ℕ
outcome_text o = said_text o.said ++ codes "\n"

abbrev pub texts_of : List Outcome → List ℕ
texts_of [] = []
texts_of (o ∷ rest) = outcome_text o ++ texts_of rest

-- A run of items in lane 1 from one state to another, under some choices that the keeper's counts allow. The keeper's
-- commits are those of the items, in order, and each failed exactly where a choice says so. The text has a line for each
-- item, then the closing text.
pub record IsRunOf (before after : KeptAt) (s : State) (items : List Item) (t : State) (text : List ℕ) : Type 0 where
  pub choices : List Choice
  pub counted : Counted before.faults choices after.faults
  pub stored : after.stored ≡ before.stored ++ asked_all 1 s items choices
  pub says : text ≡ texts_of (outcomes_with 1 s items choices) ++ closing t
  pub state : t ≡ after_with 1 s items choices
  -- if the keeper's count didn't rise, every step was stored
  pub steady : after.faults ≡ before.faults → text ≡ texts_of (outcomes 1 s items) ++ closing (after_items 1 s items)

-- a run of the items in a script's lines
abbrev pub IsRun : KeptAt → KeptAt → State → List ℕ → State → List ℕ → Type 0
IsRun before after s script t text = IsRunOf before after s (items_of (lines_of script)) t text

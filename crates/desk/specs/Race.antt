-- A race of scripts, which run at once as lanes, and its text.
use Rattle.std.specs.Prelude.{◌≡◌, ℕ, ◌+◌, true, List, [], ◌∷◌, ◌++◌, length, map, codes, decimal}
use Rattle.std.specs.List.{concat, list_all}
use Rattle.desk_json.specs.Canonical.{call_text}
use Rattle.desk_json.specs.Replies.{reply_text}
use Rattle.desk_state.specs.State.{State}
use Rattle.desk_state.specs.Texts.{closing}
use Rattle.desk_state.specs.declared.entry.Entry.{Entry}
use Rattle.desk_state.specs.declared.entry.What.{What}
use Rattle.desk_state.specs.declared.entry.What.TheVariants.{Tick, Asked}
use Rattle.desk_state.specs.declared.lanes.Outcome.{Outcome}
use Rattle.desk_time.specs.Moments.{shown}
use Rattle.desk.specs.Keeping.{KeptAt}
use Rattle.desk.specs.Merge.{AreMerged, AreMergedInPart, is_done}
use Rattle.desk.specs.Positions.{AreOneHistory}
use Rattle.desk.specs.Round.{items_in}
use Rattle.desk.specs.Run.{LaneShown, lane_with, items_of, lines_of, said_text}

-- the moment of a tick, or a call and its reply
abbrev pub what_text : What → List ℕ
what_text (Tick to) = concat (codes " TICK " ∷ shown to ∷ [])
what_text (Asked call reply) = concat (codes " CALL " ∷ call_text call ∷ codes " " ∷ reply_text reply ∷ [])

-- the line of an entry: its lane, and what it records
abbrev pub entry_text : Entry → List ℕ
entry_text e = decimal e.lane ++ what_text e.what ++ codes "\n"

abbrev pub entries_text : List Entry → List ℕ
entries_text [] = []
entries_text (e ∷ rest) = entry_text e ++ entries_text rest

abbrev pub history_text : List Entry → List ℕ
history_text entries = concat (codes "HISTORY " ∷ decimal (length entries) ∷ codes "\n" ∷ []) ++ entries_text entries

-- the line of an outcome in a race: its position, then its reply or fault
abbrev pub line_text : Outcome → List ℕ
line_text o = concat (decimal o.position ∷ codes " " ∷ said_text o.said ∷ codes "\n" ∷ [])

abbrev pub lines_text : List Outcome → List ℕ
lines_text [] = []
lines_text (o ∷ rest) = line_text o ++ lines_text rest

-- a lane: its number, how many items it has, and a line for each outcome
abbrev pub lane_text : ℕ → LaneShown → List ℕ
lane_text number lane = concat (codes "LANE " ∷ decimal number ∷ codes " " ∷ decimal (length lane.items) ∷ codes "\n" ∷ []) ++ lines_text lane.outcomes

-- the texts of lanes that are numbered from `number`
abbrev pub lanes_text : ℕ → List LaneShown → List ℕ
lanes_text number [] = []
lanes_text number (lane ∷ rest) = lane_text number lane ++ lanes_text (number + 1) rest

-- the text of a race that ended in this state: the history, the lanes, and the closing text
unfoldable pub race_text : State → List LaneShown → List ℕ
race_text s lanes = history_text s.entries ++ lanes_text 1 lanes ++ closing s

-- the lane of a script, without outcomes yet
abbrev pub lane_of : List ℕ → LaneShown
lane_of script = lane_with (items_of (lines_of script)) []

abbrev pub lanes_of : List (List ℕ) → List LaneShown
lanes_of scripts = map lane_of scripts

-- A race of scripts from one state to another, between two moments of the keeper. Every line has its outcome in the one
-- history of the desk. Each outcome follows from its position.
pub record IsRace (before after : KeptAt) (s : State) (scripts : List (List ℕ)) (t : State) (text : List ℕ) : Type 0 where
  pub lanes : List LaneShown
  pub items : map items_in lanes ≡ map items_in (lanes_of scripts)
  pub done : list_all is_done lanes ≡ true
  pub merged : AreMerged before after s lanes t
  pub history : AreOneHistory before.faults after.faults s lanes t
  pub says : text ≡ race_text t lanes

-- Memory ran out in a race. The outcomes so far form one history. After them at most one tick was made.
pub record IsRaceInPart (before after : KeptAt) (s : State) (scripts : List (List ℕ)) (t : State) : Type 0 where
  pub lanes : List LaneShown
  pub items : map items_in lanes ≡ map items_in (lanes_of scripts)
  pub part : AreMergedInPart before after s lanes t

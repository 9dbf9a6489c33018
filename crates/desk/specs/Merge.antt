-- How the turns of lanes that run at once form one history.
use Rattle.std.specs.Prelude.{◌≡◌, ◌⊎◌, ℕ, Bool, ◌+◌, ◌≤◌, ◌==◌, List, [], ◌∷◌, ◌++◌, length, map, filter, take, slice_get, Some}
use Rattle.std.specs.List.{AllByRecursion}
use Rattle.desk_state.specs.Repeats.{IsAskable}
use Rattle.desk_state.specs.State.{State}
use Rattle.desk_state.specs.declared.lanes.Item.{Item}
use Rattle.desk_state.specs.declared.lanes.Outcome.{Outcome}
use Rattle.desk.specs.InPart.{MayHaveBegun}
use Rattle.desk.specs.Keeping.{Asks, Choice, Given, Counted, KeptAt, KeptLater, asked_item, item_with}
use Rattle.desk.specs.Run.{LaneShown, lane_with}
use Rattle.desk.specs.Seen.{DeskSeen}

-- a turn of a lane: its next item, and at which steps the keeper fails
pub record Turn : Type 0 where
  pub lane : ℕ
  pub item : Item
  pub choice : Choice

-- an item of a lane, and its outcome
pub record Event : Type 0 where
  pub lane : ℕ
  pub item : Item
  pub outcome : Outcome

-- the answer to a turn's item in a state
abbrev pub turn_given : State → Turn → Given
turn_given s turn = item_with turn.choice turn.lane s turn.item

abbrev pub event_of : State → Turn → Event
event_of s turn = record { lane = turn.lane; item = turn.item; outcome = (turn_given s turn).outcome }

-- the state after turns, each of which is answered in the state that the turns before it left
abbrev pub after_turns : State → List Turn → State
after_turns s [] = s
after_turns s (turn ∷ rest) = after_turns (turn_given s turn).state rest

-- the events of turns, in order
abbrev pub events_of : State → List Turn → List Event
events_of s [] = []
events_of s (turn ∷ rest) = event_of s turn ∷ events_of (turn_given s turn).state rest

abbrev pub choices_of : List Turn → List Choice
choices_of turns = map (λ turn. turn.choice) turns

-- the commits of turns, in order, each with whether it is stored
abbrev pub asked_in : State → List Turn → List Bool
asked_in s [] = []
asked_in s (turn ∷ rest) = asked_item turn.choice turn.lane s turn.item ++ asked_in (turn_given s turn).state rest

-- the events of one lane
abbrev pub of_lane : ℕ → List Event → List Event
of_lane number events = filter (λ e. e.lane == number) events

-- The events of a lane have the lane's outcomes, in order, and its first items.
pub record LaneHas (events : List Event) (number : ℕ) (lane : LaneShown) : Type 0 where
  pub outcomes : map (λ e. e.outcome) (of_lane number events) ≡ lane.outcomes
  pub items : map (λ e. e.item) (of_lane number events) ≡ take (length lane.outcomes) lane.items

-- the turn is of one of `count` lanes, which are numbered from 1
abbrev pub IsAmong : ℕ → Turn → Type 0
IsAmong count turn = (1 ≤ turn.lane) × (turn.lane ≤ count)

-- The outcomes of the lanes are those of turns that lead from one state to another. The keeper's counts before and
-- after them allow the turns' choices, and its commits are those of the turns, in order. Each turn is of one of the
-- lanes, and each outcome of a lane is that of one of its turns.
pub record AreMerged (before after : KeptAt) (s : State) (lanes : List LaneShown) (t : State) : Type 0 where
  pub turns : List Turn
  pub counted : Counted before.faults (choices_of turns) after.faults
  pub stored : after.stored ≡ before.stored ++ asked_in s turns
  pub state : t ≡ after_turns s turns
  pub among : AllByRecursion (IsAmong (length lanes)) turns
  pub askable : AllByRecursion (λ turn. IsAskable turn.item) turns
  pub each : (n : ℕ) (lane : LaneShown) → slice_get lanes n ≡ Some lane → LaneHas (events_of s turns) (n + 1) lane

-- The outcome of an item, and the state after it, under some choice that the keeper's counts allow, with the item's
-- commits.
pub record IsTurn (lane : ℕ) (item : Item) (old new : DeskSeen) (outcome : Outcome) : Type 0 where
  pub choice : Choice
  pub counted : Counted old.keeper.health.faults (choice ∷ []) new.keeper.health.faults
  pub asks : Asks old.keeper new.keeper (asked_item choice lane old.state item)
  pub outcome_is : outcome ≡ (item_with choice lane old.state item).outcome
  pub state_is : new.state ≡ (item_with choice lane old.state item).state

-- the next item of a lane gets its outcome
pub record TakesTurn (number : ℕ) (lane grown : LaneShown) (old new : DeskSeen) : Type 0 where
  pub item : Item
  pub outcome : Outcome
  pub next : slice_get lane.items (length lane.outcomes) ≡ Some item
  pub askable : IsAskable item
  pub turn : IsTurn number item old new outcome
  pub grows : grown ≡ lane_with lane.items (lane.outcomes ++ outcome ∷ [])

-- at most the tick before the lane's next item was made
abbrev pub HasBegun : ℕ → LaneShown → State → State → Type 0
HasBegun number lane s t = (t ≡ s) ⊎ ((item : Item) × (slice_get lane.items (length lane.outcomes) ≡ Some item) × MayHaveBegun number item s t)

-- every item of the lane has its outcome
abbrev pub is_done : LaneShown → Bool
is_done lane = length lane.outcomes == length lane.items

-- the lane has no outcome yet
abbrev pub IsFresh : LaneShown → Type 0
IsFresh lane = lane.outcomes ≡ []

-- at most the tick before the next item of one lane was made
pub record HasBegunOne (lanes : List LaneShown) (s t : State) : Type 0 where
  pub place : ℕ
  pub lane : LaneShown
  pub found : slice_get lanes place ≡ Some lane
  pub begun : HasBegun (place + 1) lane s t

-- Memory ran out among the turns of lanes. The outcomes so far form one history. After them at most one tick was
-- made.
pub record AreMergedInPart (before after : KeptAt) (s : State) (lanes : List LaneShown) (t : State) : Type 0 where
  pub mid : State
  -- what the keeper had come to after the outcomes
  pub kept : KeptAt
  pub merged : AreMerged before kept s lanes mid
  pub later : KeptLater kept after
  pub left : (t ≡ mid) ⊎ HasBegunOne lanes mid t

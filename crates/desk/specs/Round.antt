-- The data under the lock of lanes that run at once, and what holds whenever the lock is free.
use Rattle.std.specs.Prelude.{◌≡◌, ℕ, ◌+◌, MatchBool, Bool, List, [], ◌∷◌, ◌++◌, length, map, set, slice_get, Some, None, false}
use Rattle.desk_state.specs.State.{State, start}
use Rattle.desk_state.specs.declared.lanes.Item.{Item}
use Rattle.keeper.specs.Seen.{KeeperSeen}
use Rattle.ops_tables.specs.Tables.{TableRows}
use Rattle.desk.specs.Keeping.{Choice, item_with, kept_at}
use Rattle.desk.specs.Merge.{AreMerged, AreMergedInPart}
use Rattle.desk.specs.Run.{LaneShown, lane_with}
use Rattle.desk.specs.Seen.{DeskSeen, DeskGoesOn}

abbrev pub items_in : LaneShown → List Item
items_in lane = lane.items

-- the desk and the items with which lanes began to run
pub record Began : Type 0 where
  pub desk : DeskSeen
  pub items : List (List Item)

-- the desk's state under the lock, the lanes, and whether memory ran out
pub record RoundShown : Type 0 where
  pub state : State
  pub lanes : List LaneShown
  pub ended : Bool

abbrev pub round_of : State → List LaneShown → Bool → RoundShown
round_of s lanes ended = record { state = s; lanes = lanes; ended = ended }

-- The outcomes so far form one history. If memory ran out, at most one tick was made after them.
abbrev pub AreTaken : Began → DeskSeen → List LaneShown → Bool → Type 0
AreTaken began desk lanes ended =
    MatchBool ended (AreMergedInPart (kept_at began.desk.keeper) (kept_at desk.keeper) began.desk.state lanes desk.state)
    (AreMerged (kept_at began.desk.keeper) (kept_at desk.keeper) began.desk.state lanes desk.state)

-- The desk goes on from the one that began, and the lanes keep their items. The outcomes so far form the history from
-- the first state to the present one.
pub record IsRound (began : Began) (desk : DeskSeen) (lanes : List LaneShown) (ended : Bool) : Type 0 where
  pub on : DeskGoesOn began.desk desk
  pub items : map items_in lanes ≡ began.items
  pub taken : AreTaken began desk lanes ended

-- The next item of the lane at a place, from 0, is answered in the desk's present state, under some choice. Its
-- outcome is added to the lane. The other lanes are unchanged.
pub record IsTaken (place : ℕ) (old new : RoundShown) : Type 0 where
  pub lane : LaneShown
  pub item : Item
  pub choice : Choice
  pub found : slice_get old.lanes place ≡ Some lane
  pub next : slice_get lane.items (length lane.outcomes) ≡ Some item
  pub state_is : new.state ≡ (item_with choice (place + 1) old.state item).state
  pub lanes_are : new.lanes ≡ set old.lanes place (lane_with lane.items (lane.outcomes ++ (item_with choice (place + 1) old.state item).outcome ∷ []))

-- tables without rows
abbrev no_tables : TableRows
no_tables = record {
  settings = record { hold_minutes = 0; marginal_ceiling = 0; single_ceiling = 0; double_ceiling = 0; marginal_vis16 = 0; single_vis16 = 0; double_vis16 = 0; late_off = 0; late_on = 0 };
  airports = [];
  approaches = [];
  alternates = [];
  types = [];
  tails = [];
  uses = [];
  distances = [];
  routes = [];
  mel = [];
  pairs = [];
  actors = [];
  hours = [];
}

abbrev no_keeper : KeeperSeen
no_keeper = record { rows = None; commits = 0; account = []; health = record { faults = 0; sound = false } }

abbrev pub nowhere : Began
nowhere = record { desk = record { opening = start no_tables; state = start no_tables; keeper = no_keeper; bells = []; listed = false }; items = [] }

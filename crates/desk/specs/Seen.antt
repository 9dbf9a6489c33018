-- The model of a desk in contracts, and what its calls preserve.
use Rattle.std.specs.Prelude.{◌≡◌, Bool, IsTrue, List}
use Rattle.alerts.specs.Ringing.{Hung, AreRung, hung_all}
use Rattle.alerts.specs.Seen.{BellSeen}
use Rattle.desk.specs.Heard.{told_by_all}
use Rattle.desk.specs.Keeping.{KeepsState, KeptAt, kept_at}
use Rattle.desk.specs.Saved.{SavesBetween}
use Rattle.desk.specs.declared.settling.Desk.{Desk}
use Rattle.desk_state.specs.State.{State}
use Rattle.keeper.specs.Seen.{KeeperSeen, KeeperGoesOn, kept_rows}

pub record DeskSeen : Type 0 where
  -- the state in which the desk was opened, and its present state
  pub opening : State
  pub state : State
  pub keeper : KeeperSeen
  -- the bells in order of their places, including those that were dropped
  pub bells : List Hung
  -- whether the board holds the entries of its history
  pub listed : Bool

abbrev pub desk_seen : {K B : Type 0} → (K → KeeperSeen) → (B → BellSeen) → Desk K B → DeskSeen
desk_seen seen heard desk =
    record { opening = desk.board.opening; state = desk.board.state; keeper = seen desk.keeper; bells = hung_all heard desk.ringer; listed = desk.board.listed }

-- the rows that are kept are those of the state
abbrev pub IsKept : DeskSeen → Type 0
IsKept desk = KeepsState (kept_rows desk.keeper) desk.state

-- The bells were these when the desk was opened, and have been rung for every notice of the history since, in order.
abbrev pub AreRungSince : List Hung → DeskSeen → Type 0
AreRungSince bells desk = AreRung (told_by_all desk.opening desk.state.entries) bells desk.bells

-- The opening state is unchanged. Rows that matched the state match it still. The keeper goes on, and its account tells
-- how it stored what is new in the history. Entries that the board holds stay.
pub record StepGoesOn (old new : DeskSeen) : Type 0 where
  pub opening : new.opening ≡ old.opening
  pub rows : IsKept old → IsKept new
  pub keeper : KeeperGoesOn old.keeper new.keeper
  pub saves : SavesBetween old.keeper.account new.keeper.account old.state new.state
  pub listed : IsTrue old.listed → IsTrue new.listed

-- The same, and the bells are rung for the notices of the history.
pub record DeskGoesOn (old new : DeskSeen) : Type 0 where
  pub opening : new.opening ≡ old.opening
  pub rows : IsKept old → IsKept new
  pub keeper : KeeperGoesOn old.keeper new.keeper
  pub saves : SavesBetween old.keeper.account new.keeper.account old.state new.state
  pub listed : IsTrue old.listed → IsTrue new.listed
  pub rung : (bells : List Hung) → AreRungSince bells old → AreRungSince bells new

-- the state and what the keeper has come to, from which answers follow
pub record DeskAt : Type 0 where
  pub state : State
  pub kept : KeptAt

abbrev pub desk_at : {K B : Type 0} → (K → KeeperSeen) → Desk K B → DeskAt
desk_at seen desk = record { state = desk.board.state; kept = kept_at (seen desk.keeper) }

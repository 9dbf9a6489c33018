-- Which desk opens over the rows of a keeper, or why none does.
use Rattle.std.specs.Prelude.{◌≡◌, ◌⊎◌, ◌<◌, ◌≤◌, ℕ, Bool, true, false, List, [], ◌∷◌, ◌++◌, length, Option, None, Some, IsTrue}
use Rattle.board.specs.Prepare.{Shown, shown}
use Rattle.desk_io.specs.Planned.{after}
use Rattle.desk_io.specs.Rows.{Rows}
use Rattle.desk_io.specs.declared.rows.Change.{Change}
use Rattle.desk_state.specs.Effects.{nothing}
use Rattle.desk_state.specs.Events.{alert_changes}
use Rattle.desk_state.specs.declared.change.AlertChange.{AlertChange}
use Rattle.desk_io.specs.declared.rows.Row.{Row}
use Rattle.keeper.specs.Account.{FailedCommit}
use Rattle.keeper.specs.Kept.{Lists}
use Rattle.keeper.specs.Seen.{KeeperSeen, kept_rows}
use Rattle.keeper.specs.declared.account.AccountEntry.{AccountEntry}
use Rattle.keeper.specs.declared.account.AccountEntry.TheVariants.{Load, Commit}
use Rattle.keeper.specs.declared.account.Outcome.TheVariants.{Done}
use Rattle.desk.specs.Keeping.{KeepsState}
use Rattle.desk.specs.Saved.{Saves, stored_in}
use Rattle.keeper.specs.Order.{rising}
use Rattle.keeper.specs.declared.keeping.KeepFault.{KeepFault}
use Rattle.board.specs.Below.{AreKept, AreOldRows, IsDesk, IsFaultOf, are_old, RowsFault, Record, state_in, reopened, opened_changes}
use Rattle.desk_state.specs.Sound.{IsBoard}
use Rattle.desk_state.specs.State.{State}
use Rattle.keeper.specs.declared.keeping.KeepFault.TheVariants as keep
use Rattle.ops_tables.specs.Tables.{TableRows}
use Rattle.board.specs.Below.RowsFaultVariants as fault
use Rattle.desk.specs.declared.opening.OpenWhy.{OpenWhy}
use Rattle.desk.specs.declared.opening.OpenWhy.TheVariants.{KeeperFault, BadRow, BadPair, OutOfMemory}

abbrev pub of_keeper : KeepFault → OpenWhy
of_keeper keep.Failed = KeeperFault
of_keeper keep.OutOfMemory = OutOfMemory

abbrev pub of_rows : RowsFault → OpenWhy
of_rows (fault.BadRow row why) = BadRow row why
of_rows (fault.BadPair one two) = BadPair one two
of_rows fault.OutOfMemory = OutOfMemory

-- the first fault of the rows; out of memory is always allowed
abbrev pub IsOfRows : List Row → OpenWhy → Type 0
IsOfRows rows KeeperFault = ⊥
IsOfRows rows (BadRow row why) = IsFaultOf rows (fault.BadRow row why)
IsOfRows rows (BadPair one two) = IsFaultOf rows (fault.BadPair one two)
IsOfRows rows OutOfMemory = Unit {0}

-- the loaded rows have a property
pub record OnLoaded (told : Option Rows) (P : List Row → Type 0) : Type 0 where
  pub rows : List Row
  -- exactly the keeper's rows, if they are known, in order
  pub listed : Lists told rows
  pub order : IsTrue (rising rows)
  pub has : P rows

-- Why no desk opens: the keeper failed, or the loaded rows have this first fault. Out of memory is always allowed.
abbrev pub IsWhy : Option Rows → Type 0 → OpenWhy → Type 0
IsWhy told rose KeeperFault = rose
IsWhy told rose (BadRow row why) = OnLoaded told (λ rows. IsFaultOf rows (fault.BadRow row why))
IsWhy told rose (BadPair one two) = OnLoaded told (λ rows. IsFaultOf rows (fault.BadPair one two))
IsWhy told rose OutOfMemory = Unit {0}

-- the keeper failed, or memory ran out
abbrev pub IsOfKeeper : Type 0 → OpenWhy → Type 0
IsOfKeeper rose KeeperFault = rose
IsOfKeeper rose (BadRow row why) = ⊥
IsOfKeeper rose (BadPair one two) = ⊥
IsOfKeeper rose OutOfMemory = Unit {0}

-- the rows are those of a desk, with these records; `old` is true if they are of the first version
pub record IsRead (records : List Record) (old : Bool) (rows : List Row) : Type 0 where
  pub desk : IsDesk rows records
  pub first : old ≡ are_old rows

-- the same for the loaded rows
abbrev pub AreLoaded : Option Rows → List Record → Bool → Type 0
AreLoaded told records old = OnLoaded told (IsRead records old)

-- The state of a board with at most 800,000 stored replies and room for another event.
pub record IsLeft (s : State) : Type 0 where
  pub opening : State
  pub board : IsBoard opening s
  pub few : length s.kept ≤ 800_000
  pub room : s.counters.events < 999_999_999_999_999

-- the keeper's rows are known, and are those of the state in either version
abbrev pub TellsRowsOf : Option Rows → State → Type 0
TellsRowsOf None s = ⊥
TellsRowsOf (Some rows) s = AreKept rows s ⊎ AreOldRows rows s

-- the state with these tables and without its history
abbrev pub under : TableRows → State → State
under tables s = record s { tables = tables; entries = [] }

-- the board of records with these tables, after its releases are judged
abbrev pub board_of : TableRows → List Record → Bool → Shown
board_of tables records listed = shown (reopened (state_in tables records)) (reopened (state_in tables records)) None listed

-- ---- the commits that are requested

-- one more commit if there are changes
abbrev pub commits_for : List Change → ℕ → ℕ
commits_for [] n = n
commits_for (change ∷ changes) n = after n

-- one more commit if the rows are of the first version, or judging changed an alert
abbrev pub commits_where : Bool → List AlertChange → ℕ → ℕ
commits_where true changes n = after n
commits_where false [] n = n
commits_where false (change ∷ changes) n = after n

-- the count of commits after the board of records is opened; `old` is true if the rows are of the first version
abbrev pub commits_to_open : TableRows → List Record → Bool → ℕ → ℕ
commits_to_open tables records old n = commits_where old (alert_changes nothing (state_in tables records)) n

-- the same for the records of the loaded rows
pub record AreAsked (told : Option Rows) (tables : TableRows) (before now : ℕ) : Type 0 where
  pub records : List Record
  pub old : Bool
  pub loaded : AreLoaded told records old
  pub asked : now ≡ commits_to_open tables records old before

-- if no desk opens: nothing was requested, or the one commit of opening
abbrev pub MayHaveAsked : Option Rows → TableRows → ℕ → ℕ → Type 0
MayHaveAsked told tables before now = (now ≡ before) ⊎ AreAsked told tables before now

-- the board of the loaded rows
pub record IsOpened (told : Option Rows) (tables : TableRows) (board : Shown) : Type 0 where
  pub records : List Record
  pub old : Bool
  pub loaded : AreLoaded told records old
  pub shows : board ≡ board_of tables records board.listed

-- ---- what the keeper's account says

-- The keeper loaded these rows, and nothing else crossed it.
pub record IsLoad (old new : List AccountEntry) (records : List Record) (first : Bool) : Type 0 where
  pub rows : List Row
  pub account : new ≡ old ++ Load (Some rows) ∷ []
  pub read : IsRead records first rows

-- the changes that opening over these records makes to the rows
abbrev pub opening_changes : TableRows → List Record → Bool → List Change
opening_changes tables records first = opened_changes first (state_in tables records) (alert_changes nothing (state_in tables records))

-- one commit of the changes, if there are any
abbrev pub commits_of : List Change → List AccountEntry
commits_of [] = []
commits_of (change ∷ changes) = Commit (change ∷ changes) Done ∷ []

-- The account gained a load of the rows of a desk, the commit of what opening changed, and then those that stored the
-- history. The opening state is that of the rows' records, judged anew.
pub record IsEntered (old new : List AccountEntry) (tables : TableRows) (opening state : State) : Type 0 where
  pub rows : List Row
  pub records : List Record
  pub first : Bool
  pub later : List AccountEntry
  pub account : new ≡ old ++ Load (Some rows) ∷ (commits_of (opening_changes tables records first) ++ later)
  pub read : IsRead records first rows
  pub opens : opening ≡ reopened (state_in tables records)
  pub saves : Saves opening later state

-- the keeper loaded these rows, and nothing else was asked of it
pub record LoadsOnly (old new : List AccountEntry) (P : List Row → Type 0) : Type 0 where
  pub rows : List Row
  pub account : new ≡ old ++ Load (Some rows) ∷ []
  pub has : P rows

-- no rows of a desk were loaded: the load failed, or the loaded rows have this first fault, or memory ran out over them
abbrev pub NotRead : List AccountEntry → List AccountEntry → OpenWhy → Type 0
NotRead old new why = (IsOfKeeper (Unit {0}) why × (new ≡ old ++ Load None ∷ [])) ⊎ LoadsOnly old new (λ rows. IsOfRows rows why)

-- the commit of what opening changed failed
abbrev pub FailsToOpen : List AccountEntry → List AccountEntry → TableRows → List Record → Bool → Type 0
FailsToOpen old new tables records first = FailedCommit old new (opening_changes tables records first) keep.Failed

-- Memory ran out before that commit, or it failed.
abbrev pub NotSaved : List AccountEntry → List AccountEntry → TableRows → List Record → Bool → OpenWhy → Type 0
NotSaved old new tables records first why = ((why ≡ OutOfMemory) × (new ≡ old)) ⊎ FailsToOpen old new tables records first

-- that commit failed after a load of the rows of a desk
pub record LoadsInVain (old new : List AccountEntry) (tables : TableRows) : Type 0 where
  pub rows : List Row
  pub records : List Record
  pub first : Bool
  pub read : IsRead records first rows
  pub failed : FailsToOpen (old ++ Load (Some rows) ∷ []) new tables records first

-- No desk was opened: no rows of a desk were loaded, or memory ran out, or the commit of what opening changed failed. No
-- commit was done.
abbrev pub NotEntered : List AccountEntry → List AccountEntry → TableRows → OpenWhy → Type 0
NotEntered old new tables why = NotRead old new why ⊎ (IsOfKeeper (Unit {0}) why × LoadsInVain old new tables)

-- that the commit of opening was stored, if there is one
abbrev pub stored_at_opening : TableRows → List Record → Bool → List Bool
stored_at_opening tables records first = stored_in (commits_of (opening_changes tables records first))

-- The board is opened over the rows that the keeper's account says were loaded, and the rows that are kept are those
-- of its state.
pub record OpensOver (old new : KeeperSeen) (tables : TableRows) (board : Shown) : Type 0 where
  pub entered : IsEntered old.account new.account tables board.opening board.state
  -- nothing was asked after opening
  pub none : entered.later ≡ []
  pub kept : KeepsState (kept_rows new) board.state

-- How a keeper stored the history: a commit for each entry, in order.
use Rattle.std.specs.Prelude.{◌≡◌, ℕ, Bool, true, false, List, [], ◌∷◌, ◌++◌, Option, None, Some}
use Rattle.board.specs.Below.{AreKept}
use Rattle.desk_io.specs.Rows.{Rows, changed_by}
use Rattle.desk_io.specs.declared.rows.Change.{Change}
use Rattle.desk_state.specs.Legal.{MayCome, next}
use Rattle.desk_state.specs.State.{State}
use Rattle.desk_state.specs.declared.entry.Entry.{Entry}
use Rattle.keeper.specs.Account.{FailedCommit}
use Rattle.keeper.specs.declared.account.AccountEntry.{AccountEntry}
use Rattle.keeper.specs.declared.account.AccountEntry.TheVariants.{Load, Commit}
use Rattle.keeper.specs.declared.account.Outcome.TheVariants.{Done, Refused, Unknown}
use Rattle.keeper.specs.declared.keeping.KeepFault.TheVariants.{Failed}

-- The history has one more entry, which may come next and leads to the later state. The changes lead from the rows of
-- the earlier state to those of the later one.
pub record SavesEntry (changes : List Change) (s t : State) : Type 0 where
  pub entry : Entry
  pub comes : MayCome s entry.lane entry.what
  pub leads : t ≡ next s entry.lane entry.what
  pub entered : t.entries ≡ s.entries ++ entry ∷ []
  pub rows : (rows : Rows) → AreKept rows s → AreKept (changed_by changes rows) t

-- the changes of an entry that could have come next
abbrev pub WouldSave : List Change → State → Type 0
WouldSave changes s = (t : State) × SavesEntry changes s t

-- The calls of a keeper between two states. Each commit that was done stored one entry of the history, in order. One
-- that was refused, or whose outcome is unknown, would have stored an entry, and left the state as it was. Nothing was
-- loaded.
abbrev pub Saves : State → List AccountEntry → State → Type 0
Saves s [] t = t ≡ s
Saves s (Load rows ∷ asked) t = ⊥
Saves s (Commit changes Done ∷ asked) t = (mid : State) × SavesEntry changes s mid × Saves mid asked t
Saves s (Commit changes Refused ∷ asked) t = WouldSave changes s × Saves s asked t
Saves s (Commit changes Unknown ∷ asked) t = WouldSave changes s × Saves s asked t

-- the account gained such calls
pub record SavesBetween (old new : List AccountEntry) (s t : State) : Type 0 where
  pub asked : List AccountEntry
  pub account : new ≡ old ++ asked
  pub saves : Saves s asked t

-- The commit was done if there was no fault, otherwise it failed.
abbrev pub DoneUnless : Option ℕ → List AccountEntry → List Change → List AccountEntry → Type 0
DoneUnless None old changes new = new ≡ old ++ Commit changes Done ∷ []
DoneUnless (Some faults) old changes new = FailedCommit old new changes Failed

-- of each commit of an account, in order, whether it was stored
abbrev pub stored_in : List AccountEntry → List Bool
stored_in [] = []
stored_in (Load rows ∷ account) = stored_in account
stored_in (Commit changes Done ∷ account) = true ∷ stored_in account
stored_in (Commit changes Refused ∷ account) = false ∷ stored_in account
stored_in (Commit changes Unknown ∷ account) = false ∷ stored_in account

-- What a load and a commit of a keeper over a file do.
use Rattle.std.specs.Prelude.{◌≡◌, List, [], ◌∷◌, ◌++◌, Option, None, Some, Result, Ok, Err}
use Rattle.desk_io.specs.declared.rows.Row.{Row}
use Rattle.desk_io.specs.declared.rows.Change.{Change}
use Rattle.keeper.specs.declared.account.AccountEntry.{AccountEntry}
use Rattle.keeper.specs.declared.account.AccountEntry.TheVariants.{Commit}
use Rattle.keeper.specs.declared.account.Outcome.{Outcome}
use Rattle.keeper.specs.declared.account.Outcome.TheVariants as outcome
use Rattle.keeper.specs.declared.keeping.KeepFault.{KeepFault}
use Rattle.keeper.specs.declared.keeping.KeepFault.TheVariants.{Failed}
use Rattle.sqlite.specs.Store.{Ghosts}
use Rattle.sqlite.specs.State.{IsLive, Opens, Survives}
use Rattle.sqlite.specs.Held.{Held, state}
use Rattle.sqlite_keeper.specs.declared.trouble.Trouble.{Trouble}
use Rattle.sqlite_keeper.specs.declared.trouble.Trouble.TheVariants.{OutOfMemory, Refused, Lost}
use Rattle.sqlite_keeper.specs.Troubles.{told}
use Rattle.sqlite_keeper.specs.Transactions.{IsClean, Changes, IsAfter, ShowsAll, HasTable}

-- The outcome of a transaction. Whether the changes were made isn't known if the file is lost.
abbrev pub outcome_of : Result (Unit {0}) Trouble → Outcome
outcome_of (Ok x) = outcome.Done
outcome_of (Err OutOfMemory) = outcome.Refused
outcome_of (Err Refused) = outcome.Refused
outcome_of (Err Lost) = outcome.Unknown

module _ {S : Type 0} (g : Ghosts S) where
  -- the connection that stays open after a call; a lost one is closed
  abbrev pub held_on : {T : Type 0} → Held S → Result T Trouble → Option (Held S)
  held_on conn (Ok x) = Some conn
  held_on conn (Err OutOfMemory) = Some conn
  held_on conn (Err Refused) = Some conn
  held_on conn (Err Lost) = None

  -- The changes were made over the connection in one transaction, or none of them was, even after a crash.
  pub record MakesOver (changes : List Change) (old : Held S) (new : Option (Held S)) (r : Result (Unit {0}) KeepFault) : Type 0 where
    pub left : Held S
    pub answer : Result (Unit {0}) Trouble
    pub made : IsClean g left → Changes g changes old left answer
    pub crash : Survives (state g old) (state g left) (IsAfter g changes old)
    pub held : new ≡ held_on left answer
    pub said : r ≡ told answer

  -- Before a load every commit fails.
  abbrev pub CommitsOver : List Change → Option (Held S) → Option (Held S) → Result (Unit {0}) KeepFault → Type 0
  CommitsOver changes None new r = (new ≡ None) × (r ≡ Err Failed)
  CommitsOver changes (Some old) new r = MakesOver changes old new r

  -- The account gained the commit with the outcome of its transaction: done exactly if the engine executed the
  -- statements of all changes and committed them.
  pub record RecordsOver (changes : List Change) (old : Held S) (new : Option (Held S)) (account more : List AccountEntry) : Type 0 where
    pub left : Held S
    pub answer : Result (Unit {0}) Trouble
    pub made : IsClean g left → Changes g changes old left answer
    pub held : new ≡ held_on left answer
    pub grew : more ≡ account ++ Commit changes (outcome_of answer) ∷ []

  -- Before a load every commit is refused.
  abbrev pub AccountsOver : List Change → Option (Held S) → Option (Held S) → List AccountEntry → List AccountEntry → Type 0
  AccountsOver changes None new account more = (new ≡ None) × (more ≡ account ++ Commit changes outcome.Refused ∷ [])
  AccountsOver changes (Some old) new account more = RecordsOver changes old new account more

  -- the file was opened, and has the desk's table
  abbrev pub IsReady : Held S → Type 0
  IsReady ready = (opened : Held S) × Opens (state g opened) × IsLive (state g opened) × HasTable g opened ready

  -- the rows are those that the engine returned, from the open file or from one opened now
  abbrev pub LoadsOver : Option (Held S) → Held S → List Row → Type 0
  LoadsOver None new rows = (ready : Held S) × IsReady ready × ShowsAll g ready new rows
  LoadsOver (Some old) new rows = ShowsAll g old new rows

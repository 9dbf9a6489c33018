-- What the engine does for the keeper, by its own contracts, while its disk returns what was written.
use Rattle.std.specs.Prelude.{◌≡◌, ◌⊎◌, ℕ, true, false, List, [], ◌∷◌, map, Result, Ok, Err, IsTrue, MatchBool, MatchResult}
use Rattle.desk_io.specs.declared.rows.Row.{Row}
use Rattle.desk_io.specs.declared.rows.Change.{Change}
use Rattle.sqlite.specs.Order.{Row as Line, column}
use Rattle.sqlite.specs.declared.types.Value.TheVariants.{Text}
use Rattle.sqlite.specs.Store.{Ghosts}
use Rattle.sqlite.specs.Tree.{Trees}
use Rattle.sqlite.specs.declared.error.Error.{Error}
use Rattle.sqlite.specs.State.{State, HasCleanDisk, Executes, ExecutesInside, Commits, Shown}
use Rattle.sqlite.specs.Steps.{FailsToCommit}
use Rattle.sqlite.specs.Held.{Held, state}
use Rattle.sqlite_keeper.specs.declared.trouble.Trouble.{Trouble}
use Rattle.sqlite_keeper.specs.declared.trouble.Trouble.TheVariants.{Refused, Lost}
use Rattle.sqlite_keeper.specs.Troubles.{trouble_of, answer_of}
use Rattle.sqlite_keeper.specs.Statements.{table_text, schema_text, all_text, line_of, columns, statement_of, values_of, Fits}

-- no transaction is open; unless the connection is closed, nothing was committed
pub record IsUndone (old new : State) : Type 0 where
  pub ended : new.in_transaction ≡ false
  pub was_open : IsTrue new.is_open → IsTrue old.is_open
  pub committed : IsTrue new.is_open → new.committed ≡ old.committed
  pub now : IsTrue new.is_open → new.now ≡ old.committed

module _ {S : Type 0} (g : Ghosts S) where
  abbrev pub IsClean : Held S → Type 0
  IsClean conn = HasCleanDisk (state g conn)

  -- the statement was executed inside a transaction, with this result
  abbrev pub IsRun : List ℕ → Line → Held S → Held S → Result (Unit {0}) Trouble → Type 0
  IsRun text values old new r =
      (outcome : Result ℕ Error) × ExecutesInside 0 text values (state g old) (state g new) outcome × (r ≡ answer_of outcome)

  -- a change was executed by its statement, or it can't be stored and was refused
  abbrev pub Makes : Change → Held S → Held S → Result (Unit {0}) Trouble → Type 0
  Makes change old new r =
      (Fits change × IsRun (statement_of change) (values_of change) old new r)
      ⊎ ((¬ Fits change) × (r ≡ Err Refused) × (new ≡ old))

  -- the changes were made in order, up to the first that failed
  abbrev pub MakesEach : List Change → Held S → Held S → Result (Unit {0}) Trouble → Type 0
  MakesEach [] old new r = (r ≡ Ok tt) × (new ≡ old)
  MakesEach (change ∷ changes) old new r =
      ((why : Trouble) × (r ≡ Err why) × Makes change old new (Err why))
      ⊎ ((mid : Held S) × Makes change old mid (Ok tt) × MakesEach changes mid new r)

  abbrev pub begun : Held S → Held S
  begun conn = record conn { in_transaction = true }

  -- all changes were made in one transaction, which was committed
  pub record CommitsAll (changes : List Change) (old new : Held S) : Type 0 where
    pub last : Held S
    pub made : MakesEach changes (begun old) last (Ok tt)
    pub committed : Commits (state g last) (state g new)

  -- why a transaction wasn't committed: a change failed, or the commit failed
  abbrev pub Stops : List Change → Held S → Held S → Trouble → Type 0
  Stops changes old new why =
      ((last : Held S) × MakesEach changes (begun old) last (Err why))
      ⊎ ((last : Held S) × (e : Error) × MakesEach changes (begun old) last (Ok tt) × FailsToCommit (state g last) (state g new) e × (why ≡ trouble_of e))

  -- All changes are made in one transaction, or none of them. If another transaction is open, nothing is done.
  abbrev pub Changes : List Change → Held S → Held S → Result (Unit {0}) Trouble → Type 0
  Changes changes old new r =
      MatchBool old.in_transaction ((r ≡ Err Lost) × (new ≡ old))
      (MatchResult r (λ _. CommitsAll changes old new) (λ why. IsUndone (state g old) (state g new) × Stops changes old new why))

  -- the contents of the database after all changes
  abbrev pub IsAfter : List Change → Held S → Trees → Type 0
  IsAfter changes old db = (last : Held S) × MakesEach changes (begun old) last (Ok tt) × (db ≡ (state g last).now.trees)

  -- the rows are those that the engine returned
  abbrev pub ShowsAll : Held S → Held S → List Row → Type 0
  ShowsAll old new rows = (lines : List Line) × Shown all_text [] (state g old) (state g new) lines × (map columns lines ≡ map line_of rows)

  -- the desk's table was there, or nothing of that name was and the table was created
  abbrev pub HasTable : Held S → Held S → Type 0
  HasTable old new =
      (mid : Held S) × (lines : List Line) × Shown schema_text [] (state g old) (state g mid) lines
      × (((line : Line) × (lines ≡ line ∷ []) × (column line 0 ≡ Text table_text) × (new ≡ mid))
      ⊎ ((lines ≡ []) × (count : ℕ) × Executes table_text [] (state g mid) (state g new) (Ok count)))

-- A keeper's account: its loads and commits in order, each with its outcome.
use Rattle.std.specs.Prelude.{◌≡◌, ◌⊎◌, ℕ, ◌+◌, ◌-◌, ◌^◌, min, List, [], ◌∷◌, ◌++◌, Option, None, Some, Result, MatchResult}
use Rattle.desk_io.specs.declared.rows.Change.{Change}
use Rattle.desk_io.specs.Rows.{Rows, rows_of, changed_by}
use Rattle.keeper.specs.declared.keeping.KeepFault.{KeepFault}
use Rattle.keeper.specs.declared.keeping.KeepFault.TheVariants.{Failed, OutOfMemory}
use Rattle.keeper.specs.declared.account.AccountEntry.{AccountEntry}
use Rattle.keeper.specs.declared.account.AccountEntry.TheVariants.{Load, Commit}
use Rattle.keeper.specs.declared.account.Outcome.TheVariants.{Done, Refused, Unknown}

-- A commit that fails was refused, or its outcome is unknown. If memory runs out, it was refused.
abbrev pub FailedCommit : List AccountEntry → List AccountEntry → List Change → KeepFault → Type 0
FailedCommit old new changes Failed = (new ≡ old ++ Commit changes Refused ∷ []) ⊎ (new ≡ old ++ Commit changes Unknown ∷ [])
FailedCommit old new changes OutOfMemory = new ≡ old ++ Commit changes Refused ∷ []

-- A commit adds its changes and its outcome, which is `Done` exactly if it succeeded.
abbrev pub AddsCommit : {T : Type 0} → List AccountEntry → List AccountEntry → List Change → Result T KeepFault → Type 0
AddsCommit old new changes r = MatchResult r (λ _. new ≡ old ++ Commit changes Done ∷ []) (FailedCommit old new changes)

-- the rows that the commits of an account leave of earlier rows: only those that were done count
abbrev pub kept_by : List AccountEntry → Rows → Rows
kept_by [] rows = rows
kept_by (Load loaded ∷ entries) rows = kept_by entries rows
kept_by (Commit changes Done ∷ entries) rows = kept_by entries (changed_by changes rows)
kept_by (Commit changes Refused ∷ entries) rows = kept_by entries rows
kept_by (Commit changes Unknown ∷ entries) rows = kept_by entries rows

-- the rows after the changes, if there are rows
abbrev pub changed_in : List Change → Option Rows → Option Rows
changed_in changes None = None
changed_in changes (Some rows) = Some (changed_by changes rows)

-- the rows that an account leaves of earlier rows, if there are any: a load returns them anew, and a commit that was
-- done changes them
abbrev pub rows_after : Option Rows → List AccountEntry → Option Rows
rows_after rows [] = rows
rows_after rows (Load None ∷ entries) = rows_after rows entries
rows_after rows (Load (Some loaded) ∷ entries) = rows_after (Some (rows_of loaded)) entries
rows_after rows (Commit changes Done ∷ entries) = rows_after (changed_in changes rows) entries
rows_after rows (Commit changes Refused ∷ entries) = rows_after rows entries
rows_after rows (Commit changes Unknown ∷ entries) = rows_after rows entries

-- the rows of the latest load, changed by exactly the commits that were done since; none before a load
abbrev pub rows_by : List AccountEntry → Option Rows
rows_by entries = rows_after None entries

-- the number of commits, whatever their outcomes
abbrev pub commits_in : List AccountEntry → ℕ
commits_in [] = 0
commits_in (Load loaded ∷ entries) = commits_in entries
commits_in (Commit changes outcome ∷ entries) = commits_in entries + 1

-- the same as a count that saturates at 2^64 - 1
abbrev pub count_of : List AccountEntry → ℕ
count_of entries = min (commits_in entries) (2 ^ 64 - 1)

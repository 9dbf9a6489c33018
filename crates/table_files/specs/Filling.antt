-- The result of reading a table from its text.
use Rattle.std.specs.Prelude.{◌≡◌, ℕ, List, Result, Ok, Err, MatchResult}
use Rattle.csv_text.specs.Records.{AreRecordsOf}
use Rattle.ops_tables.specs.Tables.{TableRows}
use Rattle.table_files.specs.declared.faults.BadRecord.{BadRecord}

-- `made` is the result of reading all records of the text
pub record Gives {A : Type 0} (text : List ℕ) (read : List (List (List ℕ)) → Result A BadRecord) (made : Result A BadRecord) : Type 0 where
  pub records : List (List (List ℕ))
  pub are_records : AreRecordsOf text records
  pub gives : read records ≡ made

-- `tables` are those that the text gives, or `made` is the bad record that it gives
abbrev pub Fills : {A : Type 0} → List ℕ → (List (List (List ℕ)) → Result TableRows BadRecord) → Result A BadRecord → TableRows → Type 0
Fills text read made tables = MatchResult made (λ _. Gives text read (Ok tables)) (λ bad. Gives text read (Err bad))

-- the rows that were read replace the old ones, unless a record is bad
abbrev pub Places : {A : Type 0} → Result A BadRecord → Result (Unit {0}) BadRecord → A → A → Type 0
Places read result old new = MatchResult read (λ rows. (result ≡ Ok tt) × (new ≡ rows)) (λ bad. (result ≡ Err bad) × (new ≡ old))

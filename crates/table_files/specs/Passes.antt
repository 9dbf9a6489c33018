-- Reading a table in two passes: the rows of its records first, then their keys.
use Rattle.std.specs.Prelude.{◌≡◌, ℕ, ◌+◌, nat_le, Bool, List, [], ◌∷◌, ◌++◌, length, if◌then◌else◌, Option, None, Some, Result, Ok, Err}
use Rattle.std.specs.List.{list_any}
use Rattle.csv_text.specs.Records.{AreRecordsOf, HasGiven}
use Rattle.csv_text.specs.declared.records.Records.{Records}
use Rattle.ops_tables.specs.Tables.{TableRows}
use Rattle.table_files.specs.Reading.{Table}
use Rattle.table_files.specs.declared.faults.TableWhy.{TableWhy}
use Rattle.table_files.specs.declared.faults.TableWhy.TheVariants as why
use Rattle.table_files.specs.declared.faults.BadRecord.{BadRecord}

-- The rows that were read, and the bad record at which reading stopped, if any. A record that names something missing
-- still gives the last row.
pub record RowsRead (R : Type 0) : Type 0 where
  pub rows : List R
  pub stop : Option BadRecord

-- some rows, followed by those that were read after them
abbrev pub onto : {R : Type 0} → List R → RowsRead R → RowsRead R
onto rows read = record { rows = rows ++ read.rows; stop = read.stop }

-- the rows, with a stop at the record after `count` others
abbrev pub stopped : {R : Type 0} → List R → ℕ → TableWhy → RowsRead R
stopped rows count reason = record { rows = rows; stop = Some (record { line = count + 2; why = reason }) }

abbrev pub row_given : {R : Type 0} → Option R → Result R TableWhy
row_given None = Err why.BadField
row_given (Some row) = Ok row

-- the row of a record that comes after `count` others, if the table has room for it
abbrev pub row_at : {R : Type 0} → ℕ → Table R → ℕ → List (List ℕ) → Result R TableWhy
row_at limit table count fields = if nat_le limit count then Err why.OverLimit else row_given (table.row_of fields)

-- the next record, after `count` rows and the records that the reader returned, gives this row or is the end
abbrev pub GivesRow : {R : Type 0} → ℕ → Table R → ℕ → List ℕ → List (List (List ℕ)) → Option (Result R TableWhy) → Records → Type 0
GivesRow limit table count text earlier None reader = AreRecordsOf text earlier
GivesRow limit table count text earlier (Some given) reader =
    (fields : List (List ℕ)) × HasGiven text (earlier ++ fields ∷ []) reader × (row_at limit table count fields ≡ given)

-- a row and those that are read after it; reading stops at the row if it is bad or names something missing
abbrev pub read_on : {R : Type 0} → Table R → TableRows → ℕ → Result R TableWhy → RowsRead R → RowsRead R
read_on table tables count (Err reason) later = stopped [] count reason
read_on table tables count (Ok row) later = if table.is_linked tables row then onto (row ∷ []) later else stopped (row ∷ []) count why.Unlinked

-- what is read of records that come after `count` others
abbrev pub rows_read : {R : Type 0} → ℕ → Table R → TableRows → ℕ → List (List (List ℕ)) → RowsRead R
rows_read limit table tables count [] = record { rows = []; stop = None }
rows_read limit table tables count (fields ∷ others) = read_on table tables count (row_at limit table count fields) (rows_read limit table tables (count + 1) others)

abbrev pub ended : {R : Type 0} → List R → Option BadRecord → Result (List R) BadRecord
ended rows None = Ok rows
ended rows (Some bad) = Err bad

-- all rows, or the first bad record: the first row whose key an earlier one has, otherwise the stop
abbrev pub keyed : {R : Type 0} → (R → R → Bool) → List R → List R → Option BadRecord → Result (List R) BadRecord
keyed is_same_key earlier [] stop = ended earlier stop
keyed is_same_key earlier (row ∷ rows) stop =
    if list_any (is_same_key row) earlier then Err (record { line = length earlier + 2; why = why.Doubled }) else keyed is_same_key (earlier ++ row ∷ []) rows stop

-- Reading a table record by record, header first, up to the first bad record.
use Rattle.std.specs.Prelude.{◌≡◌, ℕ, ◌+◌, nat_le, Bool, true, false, ◌&&◌, List, [], ◌∷◌, ◌++◌, length, take, if◌then◌else◌, Option, None, Some, Result, Ok, Err}
use Rattle.std.specs.List.{list_any}
use Rattle.std.specs.Str.{bytes_eq}
use Rattle.csv_text.specs.Records.{AreRecordsOf, HasGiven}
use Rattle.csv_text.specs.declared.records.Records.{Records}
use Rattle.ops_tables.specs.Tables.{TableRows}
use Rattle.table_files.specs.declared.faults.TableWhy.{TableWhy}
use Rattle.table_files.specs.declared.faults.TableWhy.TheVariants as why
use Rattle.table_files.specs.declared.faults.BadRecord.{BadRecord}

-- A table's format: its columns, the row of a record, whether the tables have whatever a row names, and the tables
-- with these rows.
pub record Table (R : Type 0) : Type 0 where
  pub columns : List (List ℕ)
  pub row_of : List (List ℕ) → Option R
  pub is_linked : TableRows → R → Bool
  pub with_rows : TableRows → List R → TableRows

-- a record's row depends only on its first fields, one more than there are columns
abbrev pub IsToldByFirst : {R : Type 0} → Table R → Type 0
IsToldByFirst table = (fields : List (List ℕ)) → table.row_of (take (length table.columns + 1) fields) ≡ table.row_of fields

-- the fields are equal, in the same order
abbrev pub are_same : List (List ℕ) → List (List ℕ) → Bool
are_same [] [] = true
are_same [] (name ∷ names) = false
are_same (field ∷ fields) [] = false
are_same (field ∷ fields) (name ∷ names) = bytes_eq field name && are_same fields names

abbrev pub linked_row : {R : Type 0} → Table R → TableRows → R → Result R TableWhy
linked_row table tables row = if table.is_linked tables row then Ok row else Err why.Unlinked

-- the row, if no earlier row has its key and the tables have whatever it names
abbrev pub new_row : {R : Type 0} → (R → R → Bool) → Table R → TableRows → List R → Option R → Result R TableWhy
new_row is_same_key table tables earlier None = Err why.BadField
new_row is_same_key table tables earlier (Some row) = if list_any (is_same_key row) earlier then Err why.Doubled else linked_row table tables row

-- the row of a record that comes after `earlier` rows, or the first test that it fails
abbrev pub row_after : {R : Type 0} → (R → R → Bool) → ℕ → Table R → TableRows → List R → List (List ℕ) → Result R TableWhy
row_after is_same_key limit table tables earlier fields =
    if nat_le limit (length earlier) then Err why.OverLimit else new_row is_same_key table tables earlier (table.row_of fields)

-- continues with the row, or reports the record of this number as bad
abbrev pub or_bad : {A B : Type 0} → ℕ → Result A TableWhy → (A → Result B BadRecord) → Result B BadRecord
or_bad number (Err why) next = Err (record { line = number; why = why })
or_bad number (Ok row) next = next row

-- the earlier rows and those of these records, or the first bad record; the header is record 1
abbrev pub rows_after : {R : Type 0} → (R → R → Bool) → ℕ → Table R → TableRows → List R → List (List (List ℕ)) → Result (List R) BadRecord
rows_after is_same_key limit table tables earlier [] = Ok earlier
rows_after is_same_key limit table tables earlier (fields ∷ others) =
    or_bad (length earlier + 2) (row_after is_same_key limit table tables earlier fields) (λ row. rows_after is_same_key limit table tables (earlier ++ row ∷ []) others)

abbrev pub bad_header : {A : Type 0} → Result A BadRecord
bad_header = Err (record { line = 1; why = why.BadField })

-- reads the records below the header, if the first record is a header with these columns
abbrev pub under_header : {A : Type 0} → List (List ℕ) → (List (List (List ℕ)) → Result A BadRecord) → List (List (List ℕ)) → Result A BadRecord
under_header columns read [] = bad_header
under_header columns read (header ∷ records) = if are_same header columns then read records else bad_header

-- the rows of a table with these records, or the first bad record
abbrev pub rows_of : {R : Type 0} → (R → R → Bool) → ℕ → Table R → TableRows → List (List (List ℕ)) → Result (List R) BadRecord
rows_of is_same_key limit table tables records = under_header table.columns (rows_after is_same_key limit table tables []) records

-- the tables with the rows that were read, or the bad record
abbrev pub placed : {A : Type 0} → (A → TableRows) → Result A BadRecord → Result TableRows BadRecord
placed tables_with (Ok rows) = Ok (tables_with rows)
placed tables_with (Err bad) = Err bad

-- the tables after one more table with these records is read, or its first bad record
abbrev pub with_table : {R : Type 0} → (R → R → Bool) → ℕ → Table R → TableRows → List (List (List ℕ)) → Result TableRows BadRecord
with_table is_same_key limit table tables records = placed (table.with_rows tables) (rows_of is_same_key limit table tables records)

-- the first record is a header with these columns
abbrev pub has_header : List (List ℕ) → List (List (List ℕ)) → Bool
has_header columns [] = false
has_header columns (header ∷ records) = are_same header columns

-- the text's first record is a header with these columns, and the reader is after it
pub record HasHeader (text : List ℕ) (columns : List (List ℕ)) (reader : Records) : Type 0 where
  pub header : List (List ℕ)
  pub is_same : are_same header columns ≡ true
  pub given : HasGiven text (header ∷ []) reader

-- the text's first record isn't a header with these columns, or there is no record
pub record HasNoHeader (text : List ℕ) (columns : List (List ℕ)) : Type 0 where
  pub records : List (List (List ℕ))
  pub are_records : AreRecordsOf text records
  pub none : has_header columns records ≡ false

abbrev pub Begins : List ℕ → List (List ℕ) → Bool → Records → Type 0
Begins text columns true reader = HasHeader text columns reader
Begins text columns false reader = HasNoHeader text columns

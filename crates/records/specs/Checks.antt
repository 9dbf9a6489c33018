-- Which rows are the rows of a desk, and the first fault of any others.
use Rattle.std.specs.Prelude.{◌≡◌, ◌↔◌, ℕ, true, All, Any, List, ◌∷◌, ◌++◌, length, map, Option, Some, Result, Ok, Err, IfErr}
use Rattle.std.specs.List.{slice_get}
use Rattle.std.specs.Option.{option_map}
use Rattle.desk_time.specs.Digits.{◌>>=◌}
use Rattle.desk_io.specs.declared.rows.Row.{Row}
use Rattle.release_json.specs.declared.version.Version.{Version}
use Rattle.records.specs.Bodies.{row_in}
use Rattle.records.specs.Faults.{fit, IsWithin}
use Rattle.records.specs.Reading.{IsOldMeta, are_old, version_of}
use Rattle.records.specs.Valid.{IsRecord, SaysRecord}
use Rattle.records.specs.declared.checking.Checked.{Checked}
use Rattle.records.specs.declared.faults.Fault.{Fault}
use Rattle.records.specs.declared.faults.Fault.TheVariants.{Bad, Pair}
use Rattle.records.specs.declared.faults.RowWhy.{RowWhy}
use Rattle.records.specs.declared.faults.RowWhy.TheVariants.{NotCanonical, NoMeta, Orphan, OverLimit}
use Rattle.records.specs.declared.faults.RowsFault.{RowsFault}
use Rattle.records.specs.declared.faults.RowsFault.TheVariants.{BadRow, BadPair, OutOfMemory}
use Rattle.records.specs.declared.record.Record.{Record}

-- the rows are those of these valid records in this version, in order
pub record AreRowsOf (version : Version) (rows : List Row) (records : List Record) : Type 0 where
  pub valid : All IsRecord records
  pub said : All (SaysRecord version) records
  pub made : map (row_in version) records ≡ rows

-- the row isn't that of any valid record in this version
abbrev pub HasNoRecord : Version → Row → Type 0
HasNoRecord version row = (r : Record) → IsRecord r → SaysRecord version r → row_in version r ≡ row → ⊥

-- the first row that isn't that of any valid record in the version of the rows
pub record IsFirstBad (rows : List Row) (row : Row) : Type 0 where
  pub before : List Row
  pub after : List Row
  pub stands : rows ≡ before ++ row ∷ after
  pub records : List Record
  pub good : AreRowsOf (version_of rows) before records
  pub bad : HasNoRecord (version_of rows) row

-- the rows are those of valid records in their version, and this is the first test that fails
pub record Misfit (rows : List Row) (fault : Fault) : Type 0 where
  pub records : List Record
  pub are : AreRowsOf (version_of rows) rows records
  pub fails : fit records ≡ Err fault

-- the row that fails the first failing test
pub record IsMisfit (rows : List Row) (row : Row) (why : RowWhy) : Type 0 where
  pub place : ℕ
  pub there : slice_get rows place ≡ Some row
  pub misfit : Misfit rows (Bad place why)

-- the two rows that conflict, by the first failing test
pub record IsBadPair (rows : List Row) (one two : Row) : Type 0 where
  pub first : ℕ
  pub second : ℕ
  pub first_row : slice_get rows first ≡ Some one
  pub second_row : slice_get rows second ≡ Some two
  pub misfit : Misfit rows (Pair first second)

abbrev pub IsBadRow : List Row → Row → RowWhy → Type 0
IsBadRow rows row NotCanonical = IsFirstBad rows row
IsBadRow rows row NoMeta = IsMisfit rows row NoMeta
IsBadRow rows row Orphan = IsMisfit rows row Orphan
IsBadRow rows row OverLimit = IsMisfit rows row OverLimit

-- The first fault of rows. Out of memory may come at any time.
abbrev pub IsFaultOf : List Row → RowsFault → Type 0
IsFaultOf rows (BadRow row why) = IsBadRow rows row why
IsFaultOf rows (BadPair one two) = IsBadPair rows one two
IsFaultOf rows OutOfMemory = Unit {0}

-- the valid records of rows in their version, which fit together
pub record IsDesk (rows : List Row) (records : List Record) : Type 0 where
  pub are : AreRowsOf (version_of rows) rows records
  pub fit : fit records ≡ Ok tt

-- The same, with the version. The rows are of the first version exactly if one of them is the meta row of that
-- version.
pub record IsChecked (rows : List Row) (checked : Checked) : Type 0 where
  pub desk : IsDesk rows checked.records.items
  pub old : checked.is_old ≡ are_old rows
  pub exactly : (checked.is_old ≡ true) ↔ Any IsOldMeta rows

-- ---- results of parts of the code

-- the fault is this one, or out of memory
abbrev pub OrMemory : RowsFault → RowsFault → Type 0
OrMemory wanted (BadRow row why) = BadRow row why ≡ wanted
OrMemory wanted (BadPair one two) = BadPair one two ≡ wanted
OrMemory wanted OutOfMemory = Unit {0}

-- the rows at the places that a fault names
abbrev pub named : List Row → Fault → Option RowsFault
named rows (Bad place why) = option_map (λ row. BadRow row why) (slice_get rows place)
named rows (Pair first second) = slice_get rows first >>= λ one. slice_get rows second >>= λ two. Some (BadPair one two)

pub record Names (rows : List Row) (fault : Fault) (answer : RowsFault) : Type 0 where
  pub wanted : RowsFault
  pub named : named rows fault ≡ Some wanted
  pub answered : OrMemory wanted answer

-- the fault names this row, which isn't that of any valid record
pub record HasNone (version : Version) (row bad : Row) (why : RowWhy) : Type 0 where
  pub same : bad ≡ row
  pub reason : why ≡ NotCanonical
  pub none : HasNoRecord version row

-- the row isn't that of any valid record, or memory ran out
abbrev pub IsUnread : Version → Row → RowsFault → Type 0
IsUnread version row (BadRow bad why) = HasNone version row bad why
IsUnread version row (BadPair one two) = ⊥
IsUnread version row OutOfMemory = Unit {0}

pub record IsReadOf (version : Version) (row : Row) (r : Record) : Type 0 where
  pub valid : IsRecord r
  pub said : SaysRecord version r
  pub has : row_in version r ≡ row

-- the result of the tests of records; a fault names places within the list
pub record IsFitting (records : List Record) (answer : Result (Unit {0}) Fault) : Type 0 where
  pub value : answer ≡ fit records
  pub within : IfErr answer (IsWithin (length records))

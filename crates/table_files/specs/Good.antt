-- Good tables and settings, and the first bad record of a table that isn't good.
use Rattle.std.specs.Prelude.{◌≡◌, ◌↔◌, ℕ, decimal, ◌+◌, ◌<◌, ◌≤◌, Bool, true, false, List, [], ◌∷◌, ◌++◌, length, map, All, AllPairs, Any, None, Some, Result, Ok, Err}
use Rattle.ops_tables.specs.Tables.{TableRows}
use Rattle.ops_tables.specs.Keys.{is_same_airport, is_same_approach, is_same_alternate, is_same_type, is_same_tail, is_same_use, is_same_distance, is_same_route, is_same_item, is_same_pair, is_same_actor, is_same_hours}
use Rattle.ops_tables.specs.declared.rows.Settings.{Settings}
use Rattle.table_files.specs.Files.{airports, approaches, alternates, types, tails, uses, distances, routes, mel, pairs, actors, hours}
use Rattle.table_files.specs.Reading.{Table}
use Rattle.table_files.specs.Settings.{settings, settings_columns, name_of, most_of}
use Rattle.table_files.specs.declared.faults.BadRecord.{BadRecord}
use Rattle.table_files.specs.declared.faults.TableWhy.{TableWhy}
use Rattle.table_files.specs.declared.faults.TableWhy.TheVariants as why
use Rattle.table_files.specs.declared.files.File.{File}
use Rattle.table_files.specs.declared.files.File.TheVariants as file
use Rattle.table_files.specs.declared.settings.Setting.{Setting}

-- Each record gives one of the rows, in order. There are at most `limit` rows, and no two have the same key. The
-- tables have whatever a row names.
pub record AreRowsOf {R : Type 0} (is_same_key : R → R → Bool) (limit : ℕ) (table : Table R) (tables : TableRows) (records : List (List (List ℕ))) (rows : List R) : Type 0 where
  pub given : map table.row_of records ≡ map Some rows
  pub within : length rows ≤ limit
  pub distinct : AllPairs (λ earlier later. is_same_key later earlier ≡ false) rows
  pub linked : All (λ row. table.is_linked tables row ≡ true) rows

-- Why a record after some good rows is bad. In the order of the tests: the table is full; the record is no row; an
-- earlier row has its key; it names something missing.
abbrev pub IsBadAfter : {R : Type 0} → (R → R → Bool) → ℕ → Table R → TableRows → List R → List (List ℕ) → TableWhy → Type 0
IsBadAfter is_same_key limit table tables rows fields why.OverLimit = limit ≤ length rows
IsBadAfter is_same_key limit table tables rows fields why.BadField = (length rows < limit) × (table.row_of fields ≡ None)
IsBadAfter is_same_key limit table tables rows fields why.Doubled =
    (row : _) × (length rows < limit) × (table.row_of fields ≡ Some row) × Any (λ earlier. is_same_key row earlier ≡ true) rows
IsBadAfter is_same_key limit table tables rows fields why.Unlinked =
    (row : _) × (length rows < limit) × (table.row_of fields ≡ Some row) × All (λ earlier. is_same_key row earlier ≡ false) rows × (table.is_linked tables row ≡ false)

-- The first bad record. The records before it are good, and it is bad after their rows. The header is record 1.
pub record IsFirstBad {R : Type 0} (is_same_key : R → R → Bool) (limit : ℕ) (table : Table R) (tables : TableRows) (records : List (List (List ℕ))) (bad : BadRecord) : Type 0 where
  pub good : List (List (List ℕ))
  pub fields : List (List ℕ)
  pub others : List (List (List ℕ))
  pub rows : List R
  pub order : records ≡ good ++ fields ∷ others
  pub are_rows : AreRowsOf is_same_key limit table tables good rows
  pub number : bad.line ≡ length good + 2
  pub fails : IsBadAfter is_same_key limit table tables rows fields bad.why

-- The record is the setting's name and its value in decimal, within the setting's limit.
pub record IsValue (s : Setting) (fields : List (List ℕ)) (value : ℕ) : Type 0 where
  pub is_named : fields ≡ name_of s ∷ decimal value ∷ []
  pub within : value ≤ most_of s

-- The records are the names and values of these settings, in order.
pub data AreValues : List Setting → List (List (List ℕ)) → List ℕ → Type 0 where
  none : AreValues [] [] []
  first : {s : Setting} {left : List Setting} {fields : List (List ℕ)} {others : List (List (List ℕ))} {value : ℕ} {values : List ℕ}
      → IsValue s fields value → AreValues left others values → AreValues (s ∷ left) (fields ∷ others) (value ∷ values)

-- The records below the header are these nine settings and no more.
abbrev pub AreSettings : List (List (List ℕ)) → Settings → Type 0
AreSettings records made =
    AreValues settings records (made.hold_minutes ∷ made.marginal_ceiling ∷ made.single_ceiling ∷ made.double_ceiling ∷ made.marginal_vis16 ∷ made.single_vis16 ∷ made.double_vis16 ∷ made.late_off ∷ made.late_on ∷ [])

-- Why the next record is bad, if these settings are left. There is a record too many, one is missing, or it isn't the
-- name and a value of the next setting.
abbrev pub IsBadNext : List Setting → List (List (List ℕ)) → TableWhy → Type 0
IsBadNext [] [] reason = ⊥
IsBadNext [] (fields ∷ others) reason = reason ≡ why.OverLimit
IsBadNext (s ∷ left) [] reason = reason ≡ why.BadField
IsBadNext (s ∷ left) (fields ∷ others) reason = (reason ≡ why.BadField) × ((value : ℕ) → IsValue s fields value → ⊥)

-- The first bad record of some settings. The records before it are good.
pub record IsFirstBadSetting (all : List Setting) (records : List (List (List ℕ))) (bad : BadRecord) : Type 0 where
  pub before : List Setting
  pub left : List Setting
  pub good : List (List (List ℕ))
  pub others : List (List (List ℕ))
  pub values : List ℕ
  pub places : all ≡ before ++ left
  pub order : records ≡ good ++ others
  pub are_values : AreValues before good values
  pub number : bad.line ≡ length good + 2
  pub fails : IsBadNext left others bad.why

-- The first record is the header with these columns, and the records below it satisfy `Holds`.
pub record UnderHeader (columns : List (List ℕ)) (Holds : List (List (List ℕ)) → Type 0) (records : List (List (List ℕ))) : Type 0 where
  pub below : List (List (List ℕ))
  pub order : records ≡ columns ∷ below
  pub holds : Holds below

-- The first record isn't the header, so record 1 is bad, or a record below the header is bad.
pub data IsBadUnder (columns : List (List ℕ)) (Bad : List (List (List ℕ)) → BadRecord → Type 0) (records : List (List (List ℕ))) (bad : BadRecord) : Type 0 where
  no_header : (UnderHeader columns (λ below. Unit {0}) records → ⊥) → bad ≡ record { line = 1; why = why.BadField } → IsBadUnder columns Bad records bad
  under_header : UnderHeader columns (λ below. Bad below bad) records → IsBadUnder columns Bad records bad

-- A good result is the one that was made and no other. A fault is the one that was returned and no other.
pub record Exactly {A E : Type 0} (IsGood : A → Type 0) (IsBad : E → Type 0) (made : Result A E) : Type 0 where
  pub good : (a : A) → IsGood a ↔ (made ≡ Ok a)
  pub bad : (e : E) → IsBad e ↔ (made ≡ Err e)

-- these records give the tables with the rows of one more table, or its first bad record
abbrev pub SaysTable : {R : Type 0} → (R → R → Bool) → ℕ → Table R → TableRows → List (List (List ℕ)) → Result TableRows BadRecord → Type 0
SaysTable is_same_key limit table before records =
    Exactly (λ after. (rows : List _) × UnderHeader table.columns (λ below. AreRowsOf is_same_key limit table before below rows) records × (table.with_rows before rows ≡ after))
    (IsBadUnder table.columns (IsFirstBad is_same_key limit table before) records)

-- these records give the tables with the settings, or the first bad record
abbrev pub SaysSettings : TableRows → List (List (List ℕ)) → Result TableRows BadRecord → Type 0
SaysSettings before records =
    Exactly (λ after. (made : Settings) × UnderHeader settings_columns (λ below. AreSettings below made) records × (record before { settings = made } ≡ after))
    (IsBadUnder settings_columns (IsFirstBadSetting settings) records)

-- these records of a file give the tables with that file read, or its first bad record
abbrev pub SaysFile : File → TableRows → List (List (List ℕ)) → Result TableRows BadRecord → Type 0
SaysFile file.Settings before = SaysSettings before
SaysFile file.Airports before = SaysTable is_same_airport 5000 airports before
SaysFile file.Approaches before = SaysTable is_same_approach 50000 approaches before
SaysFile file.Alternates before = SaysTable is_same_alternate 20000 alternates before
SaysFile file.Types before = SaysTable is_same_type 200 types before
SaysFile file.Tails before = SaysTable is_same_tail 5000 tails before
SaysFile file.Uses before = SaysTable is_same_use 200000 uses before
SaysFile file.Distances before = SaysTable is_same_distance 200000 distances before
SaysFile file.Routes before = SaysTable is_same_route 50000 routes before
SaysFile file.Mel before = SaysTable is_same_item 50000 mel before
SaysFile file.Pairs before = SaysTable is_same_pair 50000 pairs before
SaysFile file.Actors before = SaysTable is_same_actor 5000 actors before
SaysFile file.Hours before = SaysTable is_same_hours 20000 hours before

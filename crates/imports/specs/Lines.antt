-- The lines of an import, one for each record below its header.
use Rattle.std.specs.Prelude.{◌≡◌, ℕ, Bool, true, false, ◌&&◌, if◌then◌else◌, List, [], ◌∷◌, ◌++◌, map, Option, None, Some, codes}
use Rattle.std.specs.Str.{bytes_eq}
use Rattle.csv_text.specs.Records.{AreRecordsOf, HasGiven}
use Rattle.csv_text.specs.declared.records.Records.{Records}
use Rattle.imports.specs.Records.{Line, record_or_fault}

-- the fields are the column names
abbrev pub is_header : List (List ℕ) → Bool
is_header (actor ∷ key ∷ number ∷ at ∷ text ∷ []) =
    bytes_eq actor (codes "actor") && bytes_eq key (codes "key") && bytes_eq number (codes "number") && bytes_eq at (codes "at") && bytes_eq text (codes "text")
is_header _ = false

-- a line for each record
abbrev pub lines_of : List (List (List ℕ)) → List Line
lines_of records = map record_or_fault records

-- the lines of the records below the header; none if the first record isn't the header
abbrev pub lines_under : List (List (List ℕ)) → Option (List Line)
lines_under [] = None
lines_under (header ∷ records) = if is_header header then Some (lines_of records) else None

-- the lines of a CSV file
pub record IsImport (file : List ℕ) (lines : Option (List Line)) : Type 0 where
  pub records : List (List (List ℕ))
  pub are_records : AreRecordsOf file records
  pub is : lines ≡ lines_under records

-- the lines of the records that follow the earlier ones
pub record AreLeft (text : List ℕ) (earlier : List (List (List ℕ))) (lines : List Line) : Type 0 where
  pub records : List (List (List ℕ))
  pub are_records : AreRecordsOf text (earlier ++ records)
  pub are : lines ≡ lines_of records

-- the first record of the text is the header, and the reader is after it
pub record HasHeader (text : List ℕ) (reader : Records) : Type 0 where
  pub header : List (List ℕ)
  pub names : is_header header ≡ true
  pub given : HasGiven text (header ∷ []) reader

-- the first record of the text isn't the header, or there is no record
pub record HasNoHeader (text : List ℕ) : Type 0 where
  pub records : List (List (List ℕ))
  pub are_records : AreRecordsOf text records
  pub none : lines_under records ≡ None

abbrev pub Begins : List ℕ → Bool → Records → Type 0
Begins text true reader = HasHeader text reader
Begins text false reader = HasNoHeader text

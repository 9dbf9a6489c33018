-- The records of a text, each as its fields (RFC 4180, as the crate csv reads it).
use Rattle.std.specs.Prelude.{◌≡◌, ℕ, List, ◌++◌, ◌∷◌, [], take, Option, None, Some}
use Rattle.csv.specs.Reading.{AreRecords, Reached, default_config, strip_bom}
use Rattle.csv.specs.declared.parser.State.TheVariants as st
use Rattle.csv_text.specs.Steps.{state_of}
use Rattle.csv_text.specs.declared.records.Records.{Records}

-- these are all records of a text; a byte order mark at its start is dropped, and an empty line is no record
abbrev pub AreRecordsOf : List ℕ → List (List (List ℕ)) → Type 0
AreRecordsOf text records = AreRecords default_config st.StartRecord (strip_bom text) records

-- the reader of a text has returned these records, which are the first ones of the text
unfoldable pub HasGiven : List ℕ → List (List (List ℕ)) → Records → Type 0
HasGiven text records reader = Reached default_config st.StartRecord (strip_bom text) records (state_of reader.place) reader.rest.now

-- what a reader returns after these records: at most `most` fields of the next record, or None if there is none
abbrev pub GivesNext : ℕ → List ℕ → List (List (List ℕ)) → Option (List (List ℕ)) → Records → Type 0
GivesNext most text records None reader = AreRecordsOf text records
GivesNext most text records (Some first) reader = (fields : List (List ℕ)) × HasGiven text (records ++ fields ∷ []) reader × (first ≡ take most fields)

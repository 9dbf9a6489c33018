-- The result of a command: a text or a fault, with its exit status and its line.
use Rattle.std.specs.Prelude.{ℕ, List, ◌++◌, codes, decimal, Option, None, Some, Result, Ok, Err}
use Rattle.scripts.specs.Below.{OpenWhy, RowWhy}
use Rattle.scripts.specs.Below.OpenWhyVariants as why
use Rattle.desk_io.specs.declared.rows.Row.{Row}
use Rattle.scripts.specs.Below.RowWhyVariants as row_why
use Rattle.table_files.specs.declared.faults.BadTable.{BadTable as ABadTable}
use Rattle.table_files.specs.declared.faults.TableFault.{TableFault}
use Rattle.table_files.specs.declared.faults.TableFault.TheVariants as table
use Rattle.table_files.specs.declared.faults.TableWhy.{TableWhy}
use Rattle.table_files.specs.declared.faults.TableWhy.TheVariants.{BadField, Doubled, Unlinked, OverLimit}
use Rattle.candidate_files.specs.declared.fields.CandidateWhy.{CandidateWhy}
use Rattle.candidate_files.specs.declared.fields.CandidateWhy.TheVariants as candidate_why
use Rattle.commands.specs.declared.fault.BadInput.{BadInput as ABadInput}
use Rattle.commands.specs.declared.fault.InputWhy.{InputWhy}
use Rattle.commands.specs.declared.fault.InputWhy.TheVariants as input_why
use Rattle.commands.specs.declared.fault.Fault.{Fault}
use Rattle.commands.specs.declared.fault.Fault.TheVariants.{Usage, ReadFault, WriteFault, KeeperFault, BadTable, BadRow, BadPair, OutOfMemory, DoorFault, InputTooLong, ClockFault, BadInput}

abbrev pub Outcome : Type 0
Outcome = Result (List ℕ) Fault

abbrev pub status_of_fault : Fault → ℕ
status_of_fault Usage = 2
status_of_fault (ReadFault name) = 3
status_of_fault WriteFault = 4
status_of_fault KeeperFault = 5
status_of_fault (BadTable bad) = 6
status_of_fault (BadRow row why) = 7
status_of_fault (BadPair one two) = 7
status_of_fault OutOfMemory = 8
status_of_fault DoorFault = 9
status_of_fault (InputTooLong name) = 10
status_of_fault ClockFault = 11
status_of_fault (BadInput bad) = 12

abbrev pub status_of : Outcome → ℕ
status_of (Ok text) = 0
status_of (Err fault) = status_of_fault fault

-- ---- the lines

abbrev pub why_name : TableWhy → List ℕ
why_name BadField = codes "BadField"
why_name Doubled = codes "Doubled"
why_name Unlinked = codes "Unlinked"
why_name OverLimit = codes "OverLimit"

abbrev pub candidate_why_name : CandidateWhy → List ℕ
candidate_why_name candidate_why.OverLimit = codes "OverLimit"
candidate_why_name candidate_why.BadField = codes "BadField"
candidate_why_name candidate_why.Doubled = codes "Doubled"

abbrev pub input_why_name : InputWhy → List ℕ
input_why_name input_why.NotPlan = codes "NotPlan"
input_why_name input_why.BadPlan = codes "BadPlan"
input_why_name (input_why.Candidate why) = candidate_why_name why

-- a line that ends with a file's name, the number of its first bad record, and why that record is bad
abbrev pub at_record : (front name : List ℕ) → ℕ → List ℕ → List ℕ
at_record front name number why = front ++ name ++ codes " " ++ decimal number ++ codes " " ++ why ++ codes "\n"

-- the first bad record of a table
abbrev pub bad_table : ABadTable → List ℕ
bad_table bad = at_record (codes "error 6 BadTable ") bad.name bad.line (why_name bad.why)

-- a bad plan, or the first bad record of its candidates
abbrev pub bad_input : ABadInput → List ℕ
bad_input bad = at_record (codes "error 12 BadInput ") bad.name bad.line (input_why_name bad.why)

abbrev pub row_why_name : RowWhy → List ℕ
row_why_name row_why.NotCanonical = codes "NotCanonical"
row_why_name row_why.NoMeta = codes "NoMeta"
row_why_name row_why.Orphan = codes "Orphan"
row_why_name row_why.OverLimit = codes "OverLimit"

-- the kind and the key of a row
abbrev pub row_named : Row → List ℕ
row_named row = decimal row.kind ++ codes " " ++ decimal row.key

-- a row that no desk writes, and why it is bad
abbrev pub bad_row : Row → RowWhy → List ℕ
bad_row row why = codes "error 7 BadRow " ++ row_named row ++ codes " " ++ row_why_name why ++ codes "\n"

-- two rows that contradict each other
abbrev pub bad_pair : Row → Row → List ℕ
bad_pair one two = codes "error 7 BadPair " ++ row_named one ++ codes " " ++ row_named two ++ codes "\n"

-- The line of a fault. `WriteFault` and `OutOfMemory` have none.
abbrev pub line_of : Fault → Option (List ℕ)
line_of Usage = Some (codes "error 2 Usage\n")
line_of (ReadFault name) = Some (codes "error 3 ReadFault " ++ name ++ codes "\n")
line_of WriteFault = None
line_of KeeperFault = Some (codes "error 5 KeeperFault\n")
line_of (BadTable bad) = Some (bad_table bad)
line_of (BadRow row why) = Some (bad_row row why)
line_of (BadPair one two) = Some (bad_pair one two)
line_of OutOfMemory = None
line_of DoorFault = Some (codes "error 9 DoorFault\n")
line_of (InputTooLong name) = Some (codes "error 10 InputTooLong " ++ name ++ codes "\n")
line_of ClockFault = Some (codes "error 11 ClockFault\n")
line_of (BadInput bad) = Some (bad_input bad)

abbrev pub text_of : Outcome → Option (List ℕ)
text_of (Ok text) = Some text
text_of (Err fault) = line_of fault

-- ---- faults of the tables and of opening

abbrev pub of_tables : TableFault → Fault
of_tables (table.Bad bad) = BadTable bad
of_tables (table.ReadFault name) = ReadFault name
of_tables (table.TooLong name) = InputTooLong name
of_tables table.OutOfMemory = OutOfMemory

abbrev pub of_opening : OpenWhy → Fault
of_opening why.KeeperFault = KeeperFault
of_opening (why.BadRow row reason) = BadRow row reason
of_opening (why.BadPair one two) = BadPair one two
of_opening why.OutOfMemory = OutOfMemory

-- the text has the property; out of memory is always allowed
abbrev pub Gives : (List ℕ → Type 0) → Outcome → Type 0
Gives P (Ok text) = P text
Gives P (Err OutOfMemory) = Unit {0}
Gives P (Err other) = ⊥

-- the fault is a bad input of which this holds; out of memory is always allowed
abbrev pub OnInput : (ABadInput → Type 0) → Fault → Type 0
OnInput P (BadInput bad) = P bad
OnInput P OutOfMemory = Unit {0}
OnInput P other = ⊥

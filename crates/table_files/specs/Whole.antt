-- Reading the tables of a shelf, file by file. `old` and `new` are the shelf's reads before and after.
use Rattle.std.specs.Prelude.{◌≡◌, ℕ, ◌<◌, ◌≤◌, List, [], ◌∷◌, ◌++◌, length, Option, Result, Ok, Err, MatchResult}
use Rattle.desk_io.specs.Told.{OnSource, HoldsName}
use Rattle.desk_io.specs.Health.{Health, RoseOrFull}
use Rattle.desk_io.specs.Reads.{ReadsTo, StopsReading}
use Rattle.desk_io.specs.Seen.{ShelfSeen, Holds}
use Rattle.desk_io.specs.declared.faults.WholeFault.{WholeFault}
use Rattle.desk_io.specs.declared.faults.WholeFault.TheVariants as unread
use Rattle.desk_io.specs.declared.source_read.SourceRead.{SourceRead}
use Rattle.ops_tables.specs.Tables.{TableRows}
use Rattle.table_files.specs.Filling.{Gives}
use Rattle.table_files.specs.Files.{files, name_of, no_rows, with_file}
use Rattle.table_files.specs.Good.{SaysFile}
use Rattle.table_files.specs.declared.faults.TableFault.{TableFault}
use Rattle.table_files.specs.declared.faults.TableFault.TheVariants as fault
use Rattle.table_files.specs.declared.faults.BadTable.{BadTable}
use Rattle.table_files.specs.declared.faults.BadRecord.{BadRecord}
use Rattle.table_files.specs.declared.files.File.{File}

-- the sources of a shelf by name, if contracts know them
abbrev pub Told : Type 0
Told = Option (List ℕ → Option (List ℕ))

-- The bytes of a file give `made` after the tables before it. It is exactly what the records in these bytes say.
pub record FileGives (told : Told) (old new : List SourceRead) (file : File) (before : TableRows) (made : Result TableRows BadRecord) : Type 0 where
  pub bytes : List ℕ
  pub within : length bytes ≤ 67_108_864
  -- they are the whole source
  pub source : OnSource told (name_of file) (λ given. given ≡ bytes)
  -- the reads from `old` to `new` returned exactly these bytes, from the start of the file to its end, and nothing else
  pub handed : ReadsTo (name_of file) old new (Ok bytes)
  pub gives : Gives bytes (with_file file before) made
  pub says : SaysFile file before gives.records made

-- Reading these files in turn, each once, leads from the tables `before` to the tables `after`. Nothing else is read.
abbrev pub FilesGive : Told → (old new : List SourceRead) → TableRows → List File → TableRows → Type 0
FilesGive told old new before [] after = (before ≡ after) × (new ≡ old)
FilesGive told old new before (file ∷ others) after =
    (between : TableRows) × (next : List SourceRead) × FileGives told old next file before (Ok between) × FilesGive told next new between others after

-- the first bad record of a file, after the tables that were read before it
pub record FileIsBad (told : Told) (old new : List SourceRead) (file : File) (before : TableRows) (bad : BadTable) : Type 0 where
  pub name : bad.name ≡ name_of file
  pub gives : FileGives told old new file before (Err (record { line = bad.line; why = bad.why }))

-- the shelf holds the file
abbrev pub HoldsFile : ShelfSeen → File → Type 0
HoldsFile shelf file = Holds shelf (name_of file)

-- the shelf holds all thirteen files
abbrev pub HoldsFiles : ShelfSeen → Type 0
HoldsFiles shelf = (file : File) → HoldsFile shelf file

-- a read fault occurs only at a file that the shelf doesn't hold
abbrev pub IsMissing : Told → File → TableFault → Type 0
IsMissing told file (fault.ReadFault name) = HoldsName told (name_of file) → ⊥
IsMissing told file (fault.Bad bad) = Unit {0}
IsMissing told file (fault.TooLong name) = Unit {0}
IsMissing told file fault.OutOfMemory = Unit {0}

-- a read fault occurs only if the count of faults rose or is full
abbrev pub RoseAt : Health → Health → TableFault → Type 0
RoseAt before now (fault.ReadFault name) = RoseOrFull before.faults now.faults
RoseAt before now (fault.Bad bad) = Unit {0}
RoseAt before now (fault.TooLong name) = Unit {0}
RoseAt before now fault.OutOfMemory = Unit {0}

-- What a fault says of the file whose text was to be read. `TooLong`: the reads returned more than 64 MiB, as the
-- source has. `ReadFault`: the last read failed; the shelf's contract says more. In each case nothing else was read.
abbrev pub TextFails : Told → (old new : List SourceRead) → File → TableFault → Type 0
TextFails told old new file (fault.ReadFault name) = (name ≡ name_of file) × StopsReading (name_of file) old new unread.ReadFault
TextFails told old new file (fault.TooLong name) =
    (name ≡ name_of file) × OnSource told (name_of file) (λ given. 67_108_864 < length given) × StopsReading (name_of file) old new unread.TooLong
TextFails told old new file fault.OutOfMemory = (read : Result (List ℕ) WholeFault) × ReadsTo (name_of file) old new read
TextFails told old new file (fault.Bad bad) = ⊥

-- the text of a file is exactly what the reads from `old` to `new` returned, and is the whole source; or its fault
abbrev pub ReadsText : Told → (old new : List SourceRead) → File → Result (List ℕ) TableFault → Type 0
ReadsText told old new file result =
    MatchResult result (λ text. (length text ≤ 67_108_864) × OnSource told (name_of file) (λ given. given ≡ text) × ReadsTo (name_of file) old new (Ok text)) (TextFails told old new file)

-- what a fault says of its file: it has a bad record, or its text wasn't read
abbrev pub FileFails : Told → (old new : List SourceRead) → File → TableRows → TableFault → Type 0
FileFails told old new file before (fault.Bad bad) = FileIsBad told old new file before bad
FileFails told old new file before other = TextFails told old new file other

-- What was read of a file, and the tables after it, or its fault.
abbrev pub ReadsFile : {A : Type 0} → Told → (old new : List SourceRead) → File → TableRows → Result A TableFault → TableRows → Type 0
ReadsFile told old new file before result after = MatchResult result (λ _. FileGives told old new file before (Ok after)) (λ why. FileFails told old new file before why)

-- The files before this one are good, and this one fails. The reads from `old` up to `upto` are those of the good ones.
pub record StopsAt (told : Told) (old : List SourceRead) (Fails : List SourceRead → File → TableRows → Type 0) : Type 0 where
  pub earlier : List File
  pub file : File
  pub later : List File
  pub order : files ≡ earlier ++ file ∷ later
  pub before : TableRows
  pub upto : List SourceRead
  pub read : FilesGive told old upto no_rows earlier before
  pub fails : Fails upto file before

-- The result is the tables of all files, or the first fault in the order of the files.
abbrev pub ReadsTables : Told → (old new : List SourceRead) → Result TableRows TableFault → Type 0
ReadsTables told old new result =
    MatchResult result (λ tables. FilesGive told old new no_rows files tables) (λ why. StopsAt told old (λ upto file before. FileFails told upto new file before why))

-- The files before this one are good. If the fault is a read fault, the shelf doesn't hold this file.
abbrev pub StopsAtMissing : Told → (old new : List SourceRead) → TableFault → Type 0
StopsAtMissing told old new why = StopsAt told old (λ upto file before. FileFails told upto new file before why × IsMissing told file why)

-- What a command reads: the tables, and then the sources that it names, each once and in this order, and nothing else.
use Rattle.std.specs.Prelude.{◌≡◌, ℕ, ◌<◌, ◌≤◌, List, [], ◌∷◌, ◌++◌, length, map, Option, None, Some, Result, Ok, Err}
use Rattle.desk_io.specs.Health.{HasFailedWhere, IsSound}
use Rattle.desk_io.specs.Over.{Over}
use Rattle.desk_io.specs.Reads.{ReadsTo, StopsReading}
use Rattle.desk_io.specs.Seen.{Holds, ShelfSeen}
use Rattle.desk_io.specs.Told.{OnSource}
use Rattle.desk_io.specs.declared.faults.WholeFault.{WholeFault}
use Rattle.desk_io.specs.declared.faults.WholeFault.TheVariants as unread
use Rattle.desk_io.specs.declared.source_read.SourceRead.{SourceRead}
use Rattle.ops_tables.specs.Tables.{TableRows}
use Rattle.table_files.specs.Files.{files, name_of}
use Rattle.table_files.specs.Whole.{ReadsTables, RoseAt, StopsAtMissing, Told}
use Rattle.table_files.specs.declared.faults.TableFault.{TableFault}
use Rattle.words.specs.declared.task.Task.{Task}
use Rattle.words.specs.declared.task.Task.TheVariants.{Weather, Desk}
use Rattle.commands.specs.Faults.{of_tables}
use Rattle.commands.specs.declared.fault.Fault.{Fault}
use Rattle.commands.specs.declared.fault.Fault.TheVariants.{ReadFault, OutOfMemory, InputTooLong}

-- ---- the sources

-- the first of the names or texts, for a command that reads one source
abbrev pub first_of : List (List ℕ) → List ℕ
first_of [] = []
first_of (name ∷ rest) = name

-- the second of the names or texts, for a command that reads two
abbrev pub second_of : List (List ℕ) → List ℕ
second_of [] = []
second_of (name ∷ []) = []
second_of (name ∷ other ∷ rest) = other

-- the sources that a command reads, in the order of reading
abbrev pub sources_for : Task → List (List ℕ) → List (List ℕ)
sources_for Weather names = names
sources_for (Desk task) names = map name_of files ++ names

abbrev pub sources_of : Option (Task × List (List ℕ)) → List (List ℕ)
sources_of None = []
sources_of (Some command) = sources_for command.0 command.1

-- ---- what was read

-- the shelf has made no read
abbrev pub ReadsNothing : Over ShelfSeen → Type 0
ReadsNothing shelf = shelf.after.reads ≡ shelf.before.reads

-- the same shelf, after its reads up to these
abbrev pub from_reads : Over ShelfSeen → List SourceRead → Over ShelfSeen
from_reads shelf upto = record { before = record shelf.before { reads = upto }; after = shelf.after }

-- Why a source wasn't read, and that nothing but this source was read. `ReadFault`: its last read failed. The shelf's
-- count of faults rose or is full, and the shelf isn't sound or lacks the source. `InputTooLong`: its reads returned
-- more than 64 MiB, as the source has. Out of memory is always allowed.
abbrev pub SourceFails : Over ShelfSeen → List ℕ → Fault → Type 0
SourceFails shelf name (ReadFault file) =
    (file ≡ name) × HasFailedWhere (Holds shelf.before name) shelf.before.health shelf.after.health × StopsReading name shelf.before.reads shelf.after.reads unread.ReadFault
SourceFails shelf name (InputTooLong file) =
    (file ≡ name) × OnSource shelf.before.sources name (λ bytes. 67_108_864 < length bytes) × StopsReading name shelf.before.reads shelf.after.reads unread.TooLong
SourceFails shelf name OutOfMemory = (read : Result (List ℕ) WholeFault) × ReadsTo name shelf.before.reads shelf.after.reads read
SourceFails shelf name _ = ⊥

-- the text is the whole source of this name, and has at most 64 MiB
abbrev pub IsWhole : Told → List ℕ → List ℕ → Type 0
IsWhole sources name text = (length text ≤ 67_108_864) × OnSource sources name (λ bytes. bytes ≡ text)

-- The whole source of this name, from its start to its end: exactly what the shelf's reads returned. Or why it wasn't
-- read. Nothing else was read.
abbrev pub ReadsSource : Over ShelfSeen → List ℕ → Result (List ℕ) Fault → Type 0
ReadsSource shelf name (Ok text) = IsWhole shelf.before.sources name text × ReadsTo name shelf.before.reads shelf.after.reads (Ok text)
ReadsSource shelf name (Err fault) = SourceFails shelf name fault

-- the texts are the whole sources of these names, in order
abbrev pub AreWhole : Told → List (List ℕ) → List (List ℕ) → Type 0
AreWhole sources [] [] = Unit {0}
AreWhole sources [] (text ∷ texts) = ⊥
AreWhole sources (name ∷ names) [] = ⊥
AreWhole sources (name ∷ names) (text ∷ texts) = IsWhole sources name text × AreWhole sources names texts

-- The reads from `old` to `new` are those of the sources of these names, one after another. Each source was read once,
-- from its start to its end, and its text is exactly what its reads returned. Nothing else was read.
abbrev pub AreHanded : (old new : List SourceRead) → (names texts : List (List ℕ)) → Type 0
AreHanded old new [] [] = new ≡ old
AreHanded old new [] (text ∷ texts) = ⊥
AreHanded old new (name ∷ names) [] = ⊥
AreHanded old new (name ∷ names) (text ∷ texts) = (next : List SourceRead) × ReadsTo name old next (Ok text) × AreHanded next new names texts

-- The first source that wasn't read, and why. All sources before it were read, and none after it.
pub record FailsAt (shelf : Over ShelfSeen) (names : List (List ℕ)) (fault : Fault) : Type 0 where
  pub earlier : List (List ℕ)
  pub name : List ℕ
  pub later : List (List ℕ)
  pub order : names ≡ earlier ++ name ∷ later
  pub texts : List (List ℕ)
  pub read : AreWhole shelf.before.sources earlier texts
  pub upto : List SourceRead
  pub handed : AreHanded shelf.before.reads upto earlier texts
  pub fails : SourceFails (from_reads shelf upto) name fault

-- The whole sources of these names, which the shelf's reads returned, or the first fault.
abbrev pub ReadsSources : Over ShelfSeen → List (List ℕ) → Result (List (List ℕ)) Fault → Type 0
ReadsSources shelf names (Ok texts) = AreWhole shelf.before.sources names texts × AreHanded shelf.before.reads shelf.after.reads names texts
ReadsSources shelf names (Err fault) = FailsAt shelf names fault

-- Why the tables weren't read: their first fault. Nothing was read after it.
pub record TablesFail (shelf : Over ShelfSeen) (fault : Fault) : Type 0 where
  pub stop : TableFault
  pub is : fault ≡ of_tables stop
  pub reads : ReadsTables shelf.before.sources shelf.before.reads shelf.after.reads (Err stop)
  pub rose : RoseAt shelf.before.health shelf.after.health stop
  pub sound : IsSound shelf.before.health → StopsAtMissing shelf.before.sources shelf.before.reads shelf.after.reads stop

-- The tables in all files, by the bytes that the reads up to these returned. Or their first fault.
abbrev pub ReadsFiles : Over ShelfSeen → List SourceRead → Result TableRows Fault → Type 0
ReadsFiles shelf upto (Ok tables) = ReadsTables shelf.before.sources shelf.before.reads upto (Ok tables)
ReadsFiles shelf upto (Err fault) = TablesFail shelf fault

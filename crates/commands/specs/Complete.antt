-- When only out of memory can stop a command.
use Rattle.std.specs.Prelude.{◌≢◌, ◌<◌, ℕ, List, Option, None, Some, Ok, Err, All, IsSome, length}
use Rattle.scripts.specs.Below.{OnLoaded, IsFaultOf, RowsFault}
use Rattle.desk_io.specs.Health.{Health, RoseOrFull}
use Rattle.desk_io.specs.Over.{Over}
use Rattle.desk_io.specs.Rows.{Rows}
use Rattle.desk_io.specs.Seen.{ShelfSeen, SinkSeen}
use Rattle.desk_io.specs.Told.{OnSource}
use Rattle.desk_io.specs.declared.source_read.SourceRead.{SourceRead}
use Rattle.scripts.specs.Below.RowsFaultVariants as fault
use Rattle.ops_tables.specs.Tables.{TableRows}
use Rattle.table_files.specs.Whole.{ReadsTables, Told}
use Rattle.table_files.specs.declared.faults.BadTable.{BadTable}
use Rattle.table_files.specs.declared.faults.TableFault.TheVariants as table
use Rattle.words.specs.declared.task.Task.{Task}
use Rattle.words.specs.declared.task.Task.TheVariants.{Weather, Desk}
use Rattle.commands.specs.Seen.{Lent, Service}
use Rattle.commands.specs.Sources.{AreWhole, sources_of}
use Rattle.commands.specs.Working.{HasFault}
use Rattle.commands.specs.declared.fault.Fault.{Fault}

-- no table has a bad record, whatever reads return it
abbrev pub AreGood : Told → Type 0
AreGood sources = (bad : BadTable) (old new : List SourceRead) → ReadsTables sources old new (Err (table.Bad bad)) → ⊥

-- the source has more than 64 MiB
abbrev pub IsTooLong : Told → List ℕ → Type 0
IsTooLong sources name = OnSource sources name (λ bytes. 67_108_864 < length bytes)

-- no source has more than 64 MiB
abbrev pub AreShort : Told → List (List ℕ) → Type 0
AreShort sources names = All (λ name. IsTooLong sources name → ⊥) names

-- The sources of a command have no fault under the tables: a file to import has its header, a plan and its candidates
-- pass their tests, and a file to check is a plan.
abbrev pub ArePassing : Told → Task → List (List ℕ) → Type 0
ArePassing sources Weather names = Unit {0}
ArePassing sources (Desk task) names =
    (tables : TableRows) (texts : List (List ℕ)) (stop : Fault) (old new : List SourceRead) → ReadsTables sources old new (Ok tables) → AreWhole sources names texts → HasFault task tables names texts stop → ⊥

abbrev pub AllPass : Told → Option (Task × List (List ℕ)) → Type 0
AllPass sources None = Unit {0}
AllPass sources (Some command) = ArePassing sources command.0 command.1

-- the keeper's rows, if they are known, have no fault
abbrev pub AreFaultless : Option Rows → Type 0
AreFaultless told = (why : RowsFault) → why ≢ fault.OutOfMemory → OnLoaded told (λ rows. IsFaultOf rows why) → ⊥

-- The arguments form a command, and everything it reads is valid: the tables, its sources and the rows.
pub record IsValid (shelf : ShelfSeen) (rows : Option Rows) (command : Option (Task × List (List ℕ))) : Type 0 where
  pub formed : IsSome command
  pub tables : AreGood shelf.sources
  pub passing : AllPass shelf.sources command
  pub short : AreShort shelf.sources (sources_of command)
  pub faultless : AreFaultless rows

-- no fault was counted, and the count isn't saturated
abbrev pub HasServed : Health → Health → Type 0
HasServed before after = RoseOrFull before.faults after.faults → ⊥

-- the same for every external object
pub record HaveServed {L : Type 0} (shelf : Over ShelfSeen) (sink : Over SinkSeen) (keeper : Lent) (service : Service L) : Type 0 where
  pub by_shelf : HasServed shelf.before.health shelf.after.health
  pub by_sink : HasServed sink.before.health sink.after.health
  pub by_keeper : HasServed keeper.before.health keeper.after.health
  pub by_door : HasServed service.door.before.health service.door.after.health
  pub by_clock : HasServed service.clock.before.health service.clock.after.health

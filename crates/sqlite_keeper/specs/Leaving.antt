-- What remains when a keeper closes its file.
use Rattle.std.specs.Prelude.{◌≡◌, Option, None, Some}
use Rattle.sqlite.specs.Closing.{IsCopied}
use Rattle.sqlite.specs.Held.{Held}
use Rattle.sqlite_disk.specs.declared.Disk.{Ghosts}
use Rattle.sqlite_disk.specs.declared.Files.{Files}
use Rattle.sqlite_store.specs.declared.store.FileStore.{FileStore}
use Rattle.sqlite_wal.specs.Reads.{AreClean}

-- The file alone holds the last commit, without the log and even after a crash, as long as the disk returns what was
-- written. If no file was opened, there are no files.
abbrev pub LeavesAll : {D : Type 0} {g : Ghosts D} → Option (Held (FileStore D g)) → Option (Files D) → Type 0
LeavesAll None files = files ≡ None
LeavesAll (Some conn) None = ⊥
LeavesAll {D} {g} (Some conn) (Some files) = AreClean g files.log files.db → IsCopied conn files

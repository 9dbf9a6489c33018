use Rattle.std.proofs.Common.{take}
use Rattle.desk_io.specs.Seen.{ShelfGoesOn}
use Rattle.ops_tables.specs.Limits.{FitsSettings}
use Rattle.ops_tables.specs.Shown.{shown}
use Rattle.table_files.specs.Files.{files, no_rows}
use Rattle.table_files.specs.Whole.{FilesGive, HoldsFiles}
use Rattle.table_files.proofs.whole.read_tables.Given as goal

abbrev pub invariant-loop-file : goal.invariant-loop-file
invariant-loop-file g l = record {
  read : FilesGive (g.S.Shelf.seen l.initial.shelf).sources (g.S.Shelf.seen l.initial.shelf).reads (g.S.Shelf.seen l.shelf).reads no_rows (take l.file-index files) (shown l.loaded);
  settings : FitsSettings l.loaded.settings;
  on : ShelfGoesOn (HoldsFiles (g.S.Shelf.seen l.initial.shelf)) (g.S.Shelf.seen l.initial.shelf) (g.S.Shelf.seen l.shelf);
}

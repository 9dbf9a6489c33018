use Rattle.std.proofs.Common.{rules, arith, get_or}
use Rattle.ops_tables.specs.Shown.{shown}
use Rattle.table_files.specs.Files.{files}
use Rattle.table_files.specs.Whole.{FileFails, IsMissing, StopsAtMissing}
use Rattle.table_files.specs.declared.files.File.TheVariants as file
use Rattle.table_files.proofs.Linking.{linked}
use Rattle.table_files.proofs.Naming.{names_formed}
use Rattle.table_files.proofs.WholeLaws.{passed_on, reads_more, reads_all, stops, shelf_goes_on}
use Rattle.table_files.proofs.whole.read_tables.Goals as goal

pub loop-file-preserved : goal.loop-file-preserved
loop-file-preserved g c =
    let inv = c.loop-file.invariant in
    let e = c.in_ok-read_file.ensures in
    record {
      read = reads_more (g.S.Shelf.seen c.args.shelf.now).sources (g.S.Shelf.seen c.args.shelf.now).reads _ _ c.loop-file.file-index file.Settings (shown c.loop-file.loaded) (shown c.read_file.new.loaded)
          c.loop-file-test.true inv.read (rw inv.on.sources at e.reads);
      settings = e.settings inv.settings;
      on = shelf_goes_on _ _ _ (get_or files c.loop-file.file-index file.Settings) inv.on e.on;
    }

pub returns-in_err-read_file-clause-tables : goal.returns-in_err-read_file-clause-tables
returns-in_err-read_file-clause-tables g c =
    let inv = c.loop-file.invariant in
    let seen = g.S.Shelf.seen c.args.shelf.now in
    let new = (g.S.Shelf.seen c.read_file.new.shelf).reads in
    let stop = stops seen.sources seen.reads _ (λ upto file before. FileFails seen.sources upto new file before c.in_err-read_file.field-0.0) c.loop-file.file-index file.Settings (shown c.loop-file.loaded) c.loop-file-test.true inv.read
    (rw inv.on.sources at c.in_err-read_file.ensures.reads) in
    search (rules, stop)

pub returns-in_err-read_file-clause-on : goal.returns-in_err-read_file-clause-on
returns-in_err-read_file-clause-on g c = shelf_goes_on _ _ _ (get_or files c.loop-file.file-index file.Settings) c.loop-file.invariant.on c.in_err-read_file.ensures.on

pub returns-in_err-read_file-clause-missing : goal.returns-in_err-read_file-clause-missing
returns-in_err-read_file-clause-missing g c = λ s.
    let inv = c.loop-file.invariant in
    let e = c.in_err-read_file.ensures in
    let why = c.in_err-read_file.field-0.0 in
    let seen = g.S.Shelf.seen c.args.shelf.now in
    let new = (g.S.Shelf.seen c.read_file.new.shelf).reads in
    let missing = rw inv.on.sources at (e.missing (inv.on.health.sound s).0) in
    let stop : StopsAtMissing seen.sources seen.reads new why = stops seen.sources seen.reads _ (λ upto file before. FileFails seen.sources upto new file before why × IsMissing seen.sources file why) c.loop-file.file-index file.Settings (shown c.loop-file.loaded)
    c.loop-file-test.true inv.read (rw inv.on.sources at e.reads, missing) in
    let is = c.from_residual.ensures in
    passed_on _ why _ (StopsAtMissing seen.sources seen.reads new) is.0 is.1 stop

pub of-requires-clause-linked : goal.of-requires-clause-linked
of-requires-clause-linked g c =
    let inv = c.loop-file.invariant in
    let told = (g.S.Shelf.seen c.args.shelf.now).sources in
    linked told _ _ (shown c.loop-file.loaded) (reads_all told _ _ c.loop-file.file-index (shown c.loop-file.loaded) (omega (arith, c.loop-file-test.false)) inv.read) inv.settings

pub of-requires-clause-named : goal.of-requires-clause-named
of-requires-clause-named g c =
    let inv = c.loop-file.invariant in
    let told = (g.S.Shelf.seen c.args.shelf.now).sources in
    names_formed told _ _ (shown c.loop-file.loaded) (reads_all told _ _ c.loop-file.file-index (shown c.loop-file.loaded) (omega (arith, c.loop-file-test.false)) inv.read)

pub returns-clause-tables : goal.returns-clause-tables
returns-clause-tables g c =
    let inv = c.loop-file.invariant in
    let told = (g.S.Shelf.seen c.args.shelf.now).sources in
    rw c.of.ensures (reads_all told _ _ c.loop-file.file-index (shown c.loop-file.loaded) (omega (arith, c.loop-file-test.false)) inv.read)

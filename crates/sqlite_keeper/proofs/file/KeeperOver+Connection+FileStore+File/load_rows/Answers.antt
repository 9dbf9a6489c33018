use Rattle.std.proofs.Common.{rules, ◌≡◌, Some}
use Rattle.sqlite.specs.Files.{over_files}
use Rattle.sqlite_keeper.proofs.LoadLaws.{loads_held}
use Rattle.sqlite_keeper.proofs.file.KeeperOver+Connection+FileStore+File.load_rows.Goals as goal

pub returns-clause-rows : goal.returns-clause-rows
returns-clause-rows c clean =
    let is : c.args.self.now.conn ≡ Some c.in-Some.conn = search rules in
    loads_held over_files _ c.in-Some.conn _ _ is (c.in_ok-rows.ensures.shown clean)

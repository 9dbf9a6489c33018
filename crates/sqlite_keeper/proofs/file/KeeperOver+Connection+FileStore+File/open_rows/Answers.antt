use Rattle.sqlite.specs.Files.{over_files}
use Rattle.sqlite_keeper.proofs.LoadLaws.{loads_opened}
use Rattle.sqlite_keeper.proofs.file.KeeperOver+Connection+FileStore+File.open_rows.Goals as goal

pub returns-clause-rows : goal.returns-clause-rows
returns-clause-rows c none clean =
    loads_opened over_files _ c.in_ok-conn.conn _ _ none (c.in_ok-conn.ensures (c.in_ok-rows.ensures.clean clean)) (c.in_ok-rows.ensures.shown clean)

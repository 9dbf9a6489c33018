use Rattle.sqlite_keeper.proofs.file.opened.Goals as goal

pub returns : goal.returns
returns c clean =
    let is = c.in_ok-conn.ensures (c.in_ok-make_table.ensures.clean clean) in
    (c.in_ok-conn.conn, is.0, is.1, c.in_ok-make_table.ensures.has clean)

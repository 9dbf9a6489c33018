use Rattle.std.proofs.Common.{rules, ◌≡◌, ◌++◌, length}
use Rattle.pg_wire.specs.Crossing.{came}
use Rattle.pg_keeper.specs.Loads.{row_content}
use Rattle.pg_keeper.proofs.LoadLaws.{takes_row}
use Rattle.pg_keeper.proofs.rows.take_row.Goals as goal

pub returns-in-Ok-clause-read : goal.returns-in-Ok-clause-read
returns-in-Ok-clause-read g c =
    let sized : length c.in-Some.content.items ≡ c.args.size = search rules in
    let read : came (g.L.Link.seen c.read_whole.new.link).crossed ≡ came (g.L.Link.seen c.args.link.now).crossed ++ c.in-Some.content.items = search rules in
    let is : c.in-Some.content.items ≡ row_content c.in-Some-read_row.row.kind c.in-Some-read_row.row.key c.in-Some-read_row.row.body.now = search rules in
    takes_row _ _ _ _ _ _ _ (record { kind = c.in-Some-read_row.row.kind; key = c.in-Some-read_row.row.key; body = c.in_ok-body.body })
    read sized is c.in_ok-body.ensures c.in-Ok.ensures.items

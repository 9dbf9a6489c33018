use Rattle.std.proofs.Common.{◌∙◌}
use Rattle.keeper.proofs.PlaceLaws.{stands_past, stands_of}
use Rattle.keeper.proofs.order.stands_at.Goals as goal

pub returns-in-None : goal.returns-in-None
returns-in-None c = stands_past c.args.kind c.args.key c.args.rows.now c.args.place c.in-None.ensures.lookup.3

pub returns-in-Some : goal.returns-in-Some
returns-in-Some c =
    let at = c.in-Some.ensures.lookup in
    c.is_of.ensures ∙ stands_of c.args.kind c.args.key c.args.rows.now c.args.place c.in-Some.row.now at.3.0 at.1

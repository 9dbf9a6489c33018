use Rattle.desk_acceptance.proofs.Apart.{apart_past}
use Rattle.desk_acceptance.proofs.memory.are_apart.Goals as goal

pub loop-rest-preserved : goal.loop-rest-preserved
loop-rest-preserved c = apart_past c.loop-rest.rest.now c.args.rows.now c.row-item.result c.stands_in.result c.in-len1-up.len_at_least c.row-item.is c.stands_in.ensures c.if-stands_in.false c.loop-rest.invariant

use denote.Param.{param}
use denote.Param.Send.{IsSend, param_send}
use Rattle.desk.proofs.Crossing.{Round_send}
use Rattle.desk.proofs.Merged.{taken_part, taken_whole}
use Rattle.desk.specs.Seen.{desk_seen}
use Rattle.desk.specs.contracts.round.Round as Round
use Rattle.desk.proofs.running.run_from.Goals as goal

pub in_threads-round-requires-send-M : goal.in_threads-round-requires-send-M
in_threads-round-requires-send-M g c κs within =
    let j : IsSend (param 0 g.row.J) = c.type_bounds.send-J in
    let k : IsSend (param 1 g.row.K) = c.type_bounds.send-K in
    let b : IsSend (param 2 g.row.B) = c.type_bounds.send-B in
    let r : IsSend (Round.the_row (param 0 g.row.J) (param 1 g.row.K) (param 2 g.row.B) g.J.Beginning g.K.Keeper g.B.Bell) = Round_send (param 0 g.row.J) (param 1 g.row.K) (param 2 g.row.B) j k b g.J.Beginning g.K.Keeper g.B.Bell in
    record { owned = r.owned; leaving = (param_send 0 (Round.the_row (param 0 g.row.J) (param 1 g.row.K) (param 2 g.row.B) g.J.Beginning g.K.Keeper g.B.Bell) r).leaving }

pub returns-clause-part : goal.returns-clause-part
returns-clause-part g c =
    taken_part g.J.Beginning.began (desk_seen g.K.Keeper.seen g.B.Bell.seen c.into_parts-desk.result.0) c.into_parts-desk.result.1.items c.into_parts-desk.result.2 c.into_parts-desk.ensures.taken

pub returns-clause-merged : goal.returns-clause-merged
returns-clause-merged g c =
    taken_whole g.J.Beginning.began (desk_seen g.K.Keeper.seen g.B.Bell.seen c.into_parts-desk.result.0) c.into_parts-desk.result.1.items c.into_parts-desk.result.2 c.are_whole-whole.result c.are_whole-whole.ensures.ended
    c.into_parts-desk.ensures.taken

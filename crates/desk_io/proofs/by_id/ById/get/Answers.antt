use Rattle.std.proofs.Common.{ap}
use Rattle.desk_io.proofs.ByIdLaws.{get_found, get_none}
use Rattle.desk_io.proofs.by_id.ById.get.Goals as goal

pub returns-in-Ok : goal.returns-in-Ok
returns-in-Ok g c = get_found g.T.HasId.id_of c.args.id _ _ c.in-Ok.i c.index.result.now (ap (λ s. s.list) c.self.view_is) c.in-Ok.ensures.found c.index.ensures

pub returns-in-Err : goal.returns-in-Err
returns-in-Err g c = get_none g.T.HasId.id_of c.args.id _ _ c.place.ensures.rising c.in-Err.ensures.absent

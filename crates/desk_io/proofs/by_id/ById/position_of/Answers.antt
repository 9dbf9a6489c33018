use Rattle.desk_io.proofs.ByIdLaws.{place_found, place_none}
use Rattle.desk_io.proofs.by_id.ById.position_of.Goals as goal

pub returns-in-Ok-clause-value : goal.returns-in-Ok-clause-value
returns-in-Ok-clause-value g c = place_found g.T.HasId.id_of c.args.id _ c.in-Ok.i c.in-Ok.ensures.found

pub returns-in-Err-clause-value : goal.returns-in-Err-clause-value
returns-in-Err-clause-value g c = place_none g.T.HasId.id_of c.args.id _ _ c.place.ensures.rising c.in-Err.ensures.absent

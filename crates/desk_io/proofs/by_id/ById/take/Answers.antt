use Rattle.std.proofs.Common.{ap}
use Rattle.desk_io.proofs.ByIdLaws.{get_found, get_none, take_found, take_none}
use Rattle.desk_io.proofs.ByIdEdits.{rising_without}
use Rattle.desk_io.proofs.by_id.ById.take.Goals as goal

-- it was there, and goes
pub invariant_of-self : goal.invariant_of-self
invariant_of-self g c = rising_without g.T.HasId.id_of c.args.id _ _ _ c.in-Ok.i (ap (λ s. s.list) c.self.view_is) c.in-Ok.ensures.found c.remove.ensures.items c.self.invariant

pub returns-in-Ok-clause-value : goal.returns-in-Ok-clause-value
returns-in-Ok-clause-value g c = get_found g.T.HasId.id_of c.args.id _ _ c.in-Ok.i c.remove.result (ap (λ s. s.list) c.self.view_is) c.in-Ok.ensures.found c.remove.ensures.value

pub returns-in-Ok-clause-list : goal.returns-in-Ok-clause-list
returns-in-Ok-clause-list g c = take_found g.T.HasId.id_of c.args.id _ _ _ c.in-Ok.i (ap (λ s. s.list) c.self.view_is) c.in-Ok.ensures.found c.remove.ensures.items

-- it wasn't there
pub returns-in-Err-clause-value : goal.returns-in-Err-clause-value
returns-in-Err-clause-value g c = get_none g.T.HasId.id_of c.args.id _ _ c.place.ensures.rising c.in-Err.ensures.absent

pub returns-in-Err-clause-list : goal.returns-in-Err-clause-list
returns-in-Err-clause-list g c = take_none g.T.HasId.id_of c.args.id _ _ c.place.ensures.rising c.in-Err.ensures.absent

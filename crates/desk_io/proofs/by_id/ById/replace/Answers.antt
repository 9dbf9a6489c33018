use Rattle.std.proofs.Common.{ap}
use Rattle.desk_io.proofs.ByIdEdits.{rising_found, replace_found, replace_none}
use Rattle.desk_io.proofs.by_id.ById.replace.Goals as goal

pub invariant_of-self : goal.invariant_of-self
invariant_of-self g c = rising_found g.T.HasId.id_of c.args.value _ _ c.in-Ok.i (ap (λ s. s.list) c.self.view_is) (rw (← c.id.ensures) c.in-Ok.ensures.found) c.self.invariant

pub returns-in-Ok-clause-list : goal.returns-in-Ok-clause-list
returns-in-Ok-clause-list g c = replace_found g.T.HasId.id_of c.args.value _ _ c.in-Ok.i (ap (λ s. s.list) c.self.view_is) (rw (← c.id.ensures) c.in-Ok.ensures.found)

pub returns-in_default-clause-list : goal.returns-in_default-clause-list
returns-in_default-clause-list g c = replace_none g.T.HasId.id_of c.args.value _ c.in_default.field-0 c.place.ensures.rising (rw (← c.id.ensures) c.in_default.ensures.absent)

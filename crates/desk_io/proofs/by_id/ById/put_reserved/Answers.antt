use Rattle.std.proofs.Common.{ap}
use Rattle.desk_io.proofs.ByIdEdits.{rising_found, rising_gap, put_found, put_gap}
use Rattle.desk_io.proofs.by_id.ById.put_reserved.Goals as goal

-- one of its id was there, and it takes its place
pub invariant_of-self : goal.invariant_of-self
invariant_of-self g c = rising_found g.T.HasId.id_of c.args.value _ _ c.in-Ok.i (ap (λ s. s.list) c.self.view_is) (rw (← c.id.ensures) c.in-Ok.ensures.found) c.self.invariant

pub returns-in-Ok-clause-list : goal.returns-in-Ok-clause-list
returns-in-Ok-clause-list g c = put_found g.T.HasId.id_of c.args.value _ _ c.in-Ok.i (ap (λ s. s.list) c.self.view_is) (rw (← c.id.ensures) c.in-Ok.ensures.found)

-- it goes between two
pub invariant_of-self-in-Ok-insert : goal.invariant_of-self-in-Ok-insert
invariant_of-self-in-Ok-insert g c = rising_gap g.T.HasId.id_of c.args.value _ _ _ c.in-Err.i (ap (λ s. s.list) c.self.view_is) (rw (← c.id.ensures) c.in-Err.ensures.absent) c.in-Ok-insert.ensures.items c.self.invariant

pub returns-in-Ok-insert-clause-list : goal.returns-in-Ok-insert-clause-list
returns-in-Ok-insert-clause-list g c = put_gap g.T.HasId.id_of c.args.value _ _ _ c.in-Err.i (ap (λ s. s.list) c.self.view_is) (rw (← c.id.ensures) c.in-Err.ensures.absent) c.in-Ok-insert.ensures.items

use Rattle.std.proofs.Common.{ap}
use Rattle.desk_io.proofs.SortedLaws.{put_found, put_gap, sorted_after, value_after}
use Rattle.desk_io.proofs.vector.Sorted.put_reserved.Goals as goal

-- the key was there, and its value is written over
pub invariant_of-self : goal.invariant_of-self
invariant_of-self g c =
    let view = ap (λ s. s.entries) c.self.view_is in
    let put = put_found g.K.Ord.cmp g.met.K.Ord.total c.args.key c.args.value _ _ c.in-Ok.i c.index_mut.result.now view c.in-Ok.ensures.found c.index_mut.ensures.value in
    sorted_after g.K.Ord.cmp g.met.K.Ord.total c.args.key c.args.value _ _ _ view put c.self.invariant

pub returns-in-Ok-clause-entries : goal.returns-in-Ok-clause-entries
returns-in-Ok-clause-entries g c =
    put_found g.K.Ord.cmp g.met.K.Ord.total c.args.key c.args.value _ _ c.in-Ok.i c.index_mut.result.now (ap (λ s. s.entries) c.self.view_is) c.in-Ok.ensures.found c.index_mut.ensures.value

pub returns-in-Ok-clause-each : goal.returns-in-Ok-clause-each
returns-in-Ok-clause-each g c q = value_after g.K.Ord.cmp g.met.K.Ord.total c.args.key c.args.value _ _ q (returns-in-Ok-clause-entries g c)

-- the key goes into its gap
pub invariant_of-self-in-Ok-insert : goal.invariant_of-self-in-Ok-insert
invariant_of-self-in-Ok-insert g c =
    let view = ap (λ s. s.entries) c.self.view_is in
    let put = put_gap g.K.Ord.cmp g.met.K.Ord.total c.args.key c.args.value _ _ _ c.in-Err.i view c.in-Err.ensures.absent c.in-Ok-insert.ensures.items in
    sorted_after g.K.Ord.cmp g.met.K.Ord.total c.args.key c.args.value _ _ _ view put c.self.invariant

pub returns-in-Ok-insert-clause-entries : goal.returns-in-Ok-insert-clause-entries
returns-in-Ok-insert-clause-entries g c =
    put_gap g.K.Ord.cmp g.met.K.Ord.total c.args.key c.args.value _ _ _ c.in-Err.i (ap (λ s. s.entries) c.self.view_is) c.in-Err.ensures.absent c.in-Ok-insert.ensures.items

pub returns-in-Ok-insert-clause-each : goal.returns-in-Ok-insert-clause-each
returns-in-Ok-insert-clause-each g c q = value_after g.K.Ord.cmp g.met.K.Ord.total c.args.key c.args.value _ _ q (returns-in-Ok-insert-clause-entries g c)

use Rattle.std.proofs.Common.{ap}
use Rattle.desk_io.proofs.SortedLaws.{get_found, get_gap, remove_found, remove_gap, sorted_without}
use Rattle.desk_io.proofs.SortedEdits.{value_without}
use Rattle.desk_io.proofs.vector.Sorted.remove.Goals as goal

-- the key was there, and its entry goes
pub returns-in-Ok-clause-entries : goal.returns-in-Ok-clause-entries
returns-in-Ok-clause-entries g c =
    remove_found g.K.Ord.cmp g.met.K.Ord.total c.args.key.now _ _ _ c.in-Ok.i (ap (λ s. s.entries) c.self.view_is) c.in-Ok.ensures.found c.remove.ensures.items

pub returns-in-Ok-clause-value : goal.returns-in-Ok-clause-value
returns-in-Ok-clause-value g c =
    get_found g.K.Ord.cmp g.met.K.Ord.total c.args.key.now _ _ c.in-Ok.i c.remove.result (ap (λ s. s.entries) c.self.view_is) c.in-Ok.ensures.found c.remove.ensures.value

pub returns-in-Ok-clause-each : goal.returns-in-Ok-clause-each
returns-in-Ok-clause-each g c q =
    value_without g.K.Ord.cmp g.met.K.Ord.total c.args.key.now _ _ _ q (ap (λ s. s.entries) c.self.view_is) (returns-in-Ok-clause-entries g c) c.self.invariant

pub invariant_of-self : goal.invariant_of-self
invariant_of-self g c =
    let view = ap (λ s. s.entries) c.self.view_is in
    let gone = remove_found g.K.Ord.cmp g.met.K.Ord.total c.args.key.now _ _ _ c.in-Ok.i view c.in-Ok.ensures.found c.remove.ensures.items in
    sorted_without g.K.Ord.cmp g.met.K.Ord.total c.args.key.now _ _ _ view gone c.self.invariant

-- the key wasn't there
pub returns-in-Err-clause-value : goal.returns-in-Err-clause-value
returns-in-Err-clause-value g c =
    get_gap g.K.Ord.cmp g.met.K.Ord.total c.args.key.now _ _ _ (ap (λ s. s.entries) c.self.view_is) c.in-Err.ensures.absent c.self.invariant

pub returns-in-Err-clause-entries : goal.returns-in-Err-clause-entries
returns-in-Err-clause-entries g c =
    remove_gap g.K.Ord.cmp g.met.K.Ord.total c.args.key.now _ _ _ (ap (λ s. s.entries) c.self.view_is) c.in-Err.ensures.absent c.self.invariant

pub returns-in-Err-clause-each : goal.returns-in-Err-clause-each
returns-in-Err-clause-each g c q =
    value_without g.K.Ord.cmp g.met.K.Ord.total c.args.key.now _ _ _ q (ap (λ s. s.entries) c.self.view_is) (returns-in-Err-clause-entries g c) c.self.invariant

use Rattle.std.proofs.Common.{ap}
use Rattle.desk_io.proofs.SortedLaws.{get_found, get_gap}
use Rattle.desk_io.proofs.vector.Sorted.get.Goals as goal

pub returns-in-Ok : goal.returns-in-Ok
returns-in-Ok g c =
    get_found g.K.Ord.cmp g.met.K.Ord.total c.args.key.now _ _ c.in-Ok.i c.index.result.now (ap (λ s. s.entries) c.self.view_is) c.in-Ok.ensures.found c.index.ensures

pub returns-in-Err : goal.returns-in-Err
returns-in-Err g c =
    get_gap g.K.Ord.cmp g.met.K.Ord.total c.args.key.now _ _ _ (ap (λ s. s.entries) c.self.view_is) c.in-Err.ensures.absent c.self.invariant

use Rattle.std.proofs.Common.{ap}
use Rattle.std.specs.Map.{keys_of}
use Rattle.desk_io.proofs.SortedLaws.{none_sorted}
use Rattle.desk_io.proofs.vector.Sorted.new.Goals as goal

pub invariant_of-result : goal.invariant_of-result
invariant_of-result g c = none_sorted g.K.Ord.cmp _ (ap keys_of c.new.ensures.items)

use Rattle.std.proofs.Common.{◌≡◌, [], length}
use Rattle.std.specs.List.{AllByRecursion}
use Rattle.std.specs.Vec.Iter.{into_iter_items, into_iter_len}
use Rattle.redispatch.specs.Filed.{HasPlan, filed_after}
use Rattle.redispatch.proofs.planned.Planned.made_again.Given as goal

abbrev pub invariant-loop-plan : goal.invariant-loop-plan
invariant-loop-plan l = record {
  filed : filed_after l.planned (into_iter_items l.plan-iterator) ≡ filed_after [] l.fn.filed.items;
  plans : AllByRecursion HasPlan (into_iter_items l.plan-iterator);
  len : into_iter_len l.plan-iterator ≡ length (into_iter_items l.plan-iterator);
}

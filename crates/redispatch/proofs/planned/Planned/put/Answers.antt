use Rattle.redispatch.specs.Filed.{HasPlan}
use Rattle.redispatch.proofs.FiledLaws.{put_each}
use Rattle.redispatch.proofs.planned.Planned.put.Goals as goal

pub invariant_of-self-2 : goal.invariant_of-self-2
invariant_of-self-2 c = put_each HasPlan c.args.filed _ _ _ c.self.invariant c.requires c.in_ok-reserve.ensures.same c.put_reserved.ensures.list

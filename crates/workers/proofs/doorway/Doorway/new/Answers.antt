use Rattle.workers.proofs.DoorLaws.{begins_with}
use Rattle.workers.proofs.doorway.Doorway.new.Goals as goal

pub invariant_of-result : goal.invariant_of-result
invariant_of-result g c = begins_with g.D.Door.seen c.args.door c.of-passages.result.list c.of-passages.ensures

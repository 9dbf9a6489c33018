use Rattle.turn_lock.specs.Passes.{pass_seen}
use Rattle.workers.specs.Work.{IsAtWork, IsLater}
use Rattle.workers.proofs.working.work.Given as goal

abbrev pub invariant-loop : goal.invariant-loop
invariant-loop g l = record {
  pass : IsLater l.fn.pass l.pass;
  at_door : IsLater l.fn.at_door l.at_door;
  works : IsAtWork g.W.Serving.says l.worker (pass_seen l.fn.pass) (pass_seen l.pass) (pass_seen l.fn.at_door) (pass_seen l.at_door);
}

use Rattle.std.proofs.Common.{◌∙◌}
use Rattle.turn_lock.specs.Passes.{pass_seen}
use Rattle.workers.proofs.WorkLaws.{at_work_if, at_work_none, at_work_on, later_on, same_pass, worked_if, worked_on}
use Rattle.workers.proofs.working.work.Goals as goal

pub loop-init : goal.loop-init
loop-init g c = record {
  pass = same_pass c.args.pass;
  at_door = same_pass c.args.at_door;
  works = at_work_none g.W.Serving.says c.args.worker (pass_seen c.args.pass) (pass_seen c.args.at_door);
}

pub serve_next-ended-requires : goal.serve_next-ended-requires
serve_next-ended-requires g c =
    let inv = c.loop.invariant in
    record {
      way = c.requires.way;
      lock = (inv.pass.lock ∙ c.requires.lock.0, inv.pass.number ∙ c.requires.lock.1);
      doors = (inv.at_door.lock ∙ c.requires.doors.0, inv.at_door.number ∙ c.requires.doors.1);
    }

pub returns-then-ended-clause-pass : goal.returns-then-ended-clause-pass
returns-then-ended-clause-pass g c = later_on c.args.pass c.loop.pass c.serve_next-ended.result.1 c.loop.invariant.pass c.serve_next-ended.ensures.pass

pub returns-then-ended-clause-at_door : goal.returns-then-ended-clause-at_door
returns-then-ended-clause-at_door g c = later_on c.args.at_door c.loop.at_door c.serve_next-ended.result.2 c.loop.invariant.at_door c.serve_next-ended.ensures.at_door

pub returns-then-ended-clause-worked : goal.returns-then-ended-clause-worked
returns-then-ended-clause-worked g c =
    let done = c.serve_next-ended in
    let says = g.W.Serving.says in
    worked_on says c.args.worker (pass_seen c.args.pass) (pass_seen c.loop.pass) (pass_seen done.result.1) (pass_seen c.args.at_door) (pass_seen c.loop.at_door) (pass_seen done.result.2) c.loop.invariant.works
    (worked_if says c.args.worker (pass_seen c.loop.pass) (pass_seen done.result.1) (pass_seen c.loop.at_door) (pass_seen done.result.2) done.result.0 c.if-ended.true done.ensures.works)

pub loop-preserved : goal.loop-preserved
loop-preserved g c =
    let done = c.serve_next-ended in
    let says = g.W.Serving.says in
    record {
      pass = later_on c.args.pass c.loop.pass done.result.1 c.loop.invariant.pass done.ensures.pass;
      at_door = later_on c.args.at_door c.loop.at_door done.result.2 c.loop.invariant.at_door done.ensures.at_door;
      works = at_work_on says c.args.worker (pass_seen c.args.pass) (pass_seen c.loop.pass) (pass_seen done.result.1) (pass_seen c.args.at_door) (pass_seen c.loop.at_door) (pass_seen done.result.2) c.loop.invariant.works
          (at_work_if says c.args.worker (pass_seen c.loop.pass) (pass_seen done.result.1) (pass_seen c.loop.at_door) (pass_seen done.result.2) done.result.0 c.if-ended.false done.ensures.works);
    }

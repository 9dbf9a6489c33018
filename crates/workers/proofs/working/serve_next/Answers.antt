use Rattle.turn_lock.specs.Passes.{pass_seen}
use Rattle.workers.proofs.WorkLaws.{works_at_none, works_at_some}
use Rattle.workers.proofs.working.serve_next.Goals as goal

pub returns-in-None-clause-works : goal.returns-in-None-clause-works
returns-in-None-clause-works g c =
    let is = c.accept-next.ensures in
    works_at_none g.W.Serving.says c.args.worker (pass_seen c.args.pass) (pass_seen c.args.at_door) (pass_seen c.accept-next.result.1) c.accept-next.result.0 c.in-None.is is.none is.failed

pub returns-in-Some-clause-works : goal.returns-in-Some-clause-works
returns-in-Some-clause-works g c =
    let is = c.accept-next.ensures in
    let one = c.serve_one-visited.ensures in
    works_at_some g.W.Serving.says c.args.worker (pass_seen c.args.pass) (pass_seen c.serve_one-visited.result.1) (pass_seen c.args.at_door) (pass_seen c.accept-next.result.1) (pass_seen c.give_back-at_door.result) c.accept-next.result.0
    c.in-Some.link c.serve_one-visited.result.0 c.in-Some.is is.came c.give_back-at_door.ensures.went one.pass.seen one.says

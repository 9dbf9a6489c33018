use Rattle.std.proofs.Common.{refl}
use Rattle.turn_lock.specs.Passes.{pass_numbers, pass_seen, pass_splits}
use Rattle.connections.specs.declared.doors.ServeEnd.TheVariants as ends
use Rattle.workers.proofs.StayLaws.{after_opening, none_worked, stayed_as}
use Rattle.workers.proofs.staying.stay_locked.Goals as goal

pub returns-in_default-clause-stayed : goal.returns-in_default-clause-stayed
returns-in_default-clause-stayed g c =
    let is = c.in_default.ensures in
    let done = c.finish in
    let bears = g.T.Listed.bears in
    let says = g.W.Serving.says in
    let does = g.B.Beside.does in
    stayed_as bears says does g.D.Door.seen (g.D.Door.seen c.args.door) c.bind.new.self done.result.door (g.T.Listed.list done.result.value) c.args.port c.args.workers ends.DoorFault done.result.end done.ensures.door done.ensures.end
    (none_worked bears says does (g.D.Door.seen c.args.door) (g.D.Door.seen c.bind.new.self) (pass_seen c.args.pass) (g.T.Listed.list done.result.value) (pass_numbers c.args.pass) (pass_splits c.args.pass) c.args.port c.args.workers
    ends.DoorFault c.requires.none c.requires.first.1 c.requires.first.0 is.same is.passed (is.cause.0, refl) (λ fault. is.cause.1) done.ensures.last)

pub returns-clause-stayed : goal.returns-clause-stayed
returns-clause-stayed g c =
    let is = c.in-Ok.ensures in
    let ran = c.run_workers-pass in
    let done = c.finish-2 in
    let bears = g.T.Listed.bears in
    let says = g.W.Serving.says in
    let does = g.B.Beside.does in
    stayed_as bears says does g.D.Door.seen (g.D.Door.seen c.args.door) ran.result.1 done.result.door (g.T.Listed.list done.result.value) c.args.port c.args.workers ran.result.2 done.result.end done.ensures.door done.ensures.end
    (after_opening bears says does (g.D.Door.seen c.args.door) (g.D.Door.seen c.bind.new.self) (g.D.Door.seen ran.result.1) (g.T.Listed.list done.result.value) c.args.port c.args.workers ran.result.2 is.same is.passed is.on
    (ran.ensures.run c.args.port (g.T.Listed.list done.result.value) is.opened done.ensures.last))

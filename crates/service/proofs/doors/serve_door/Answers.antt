use Rattle.std.proofs.Common.{◌∙◌, ap}
use Rattle.service.specs.Events.{last_or}
use Rattle.service.proofs.doors.serve_door.Goals as goal

pub returns-clause-still : goal.returns-clause-still
returns-clause-still g c = λ done.
    let served = c.serve_from.ensures.serves in
    served.is.counted ∙ ap (last_or (g.C.Clock.seen c.args.clock).health.faults) (served.well done)

pub returns-clause-steady_clock : goal.returns-clause-steady_clock
returns-clause-steady_clock g c = λ sound is. (c.serve_from.ensures.serves.by_clock is).0.1 sound

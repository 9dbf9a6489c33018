use Rattle.service.proofs.ServingLaws.{served_ended}
use Rattle.service.proofs.rounds.serve_counted.Goals as goal

pub returns-clause-served : goal.returns-clause-served
returns-clause-served g c =
    let is = c.serve_turns-served.ensures in
    served_ended g.S.Surface.pages g.N.Link.seen _ _ _ _ _ _ _ _ _ c.end.ensures.same record { answered = is.serves; crossed = is.crosses; goes_on = is.link; steady = is.steady_clock }

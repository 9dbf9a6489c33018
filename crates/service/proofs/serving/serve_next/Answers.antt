use Rattle.std.proofs.Common.{Err, ap}
use Rattle.connections.proofs.Steps.{served_step, served_without, stops_reading}
use Rattle.desk_io.proofs.HealthLaws.{failed_first, failed_last}
use Rattle.service.proofs.AloneLaws.{goes_none}
use Rattle.service.proofs.ResponseLaws.{not_for_clock}
use Rattle.service.proofs.serving.serve_next.Goals as goal

pub returns-in-Ok-clause-serves : goal.returns-in-Ok-clause-serves
returns-in-Ok-clause-serves g c =
    let read = c.in-Ok.ensures in
    let is = c.write_answer.ensures in
    served_step _ _ _ _ _ _ _ _ c.exchange-answered.result _ _ _ read.same (failed_last _ _ (g.N.Link.seen c.write_answer.new.link).health read.on) is.left read.answers
    c.exchange-answered.ensures.answers is.wrote

pub returns-in-Ok-clause-still : goal.returns-in-Ok-clause-still
returns-in-Ok-clause-still g c = λ other more.
    c.exchange-answered.ensures.still (not_for_clock _ c.exchange-answered.result _ _ _ c.write_answer.ensures.wrote.2 other more)

pub returns-in-Err-clause-serves : goal.returns-in-Err-clause-serves
returns-in-Err-clause-serves g c =
    let read = c.in-Err.ensures in
    let new = (g.N.Link.seen c.end_without.new.link).health in
    served_without _ _ _ _ _ _ _ _ _ _ _ _ (goes_none c.args.lane (g.C.Clock.seen c.args.clock.now) (g.K.Keeper.seen c.args.desk.now.keeper).health.faults c.args.desk.now.board.state) read.same (failed_last _ _ new read.on)
    (λ is. (failed_first _ _ new c.end_without.ensures.link (read.cause (ap Err is)), stops_reading _ _ _ _ _ _ c.end_without.ensures.left is read.next)) read.answers c.end_without.ensures.wrote

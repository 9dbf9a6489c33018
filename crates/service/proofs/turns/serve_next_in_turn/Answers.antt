use Rattle.std.proofs.Common.{Err, ap}
use Rattle.connections.proofs.Crossing.{step_crossed, without_crossed}
use Rattle.connections.proofs.Steps.{served_step, served_without, stops_reading}
use Rattle.desk_io.proofs.HealthLaws.{failed_first, failed_last}
use Rattle.service.proofs.ResponseLaws.{ends_otherwise, without_otherwise}
use Rattle.service.proofs.TurningLaws.{goes_none}
use Rattle.service.specs.Connections.{in_lane}
use Rattle.service.specs.Turning.{GoesInTurns}
use Rattle.turn_lock.specs.Passes.{pass_seen}
use Rattle.service.proofs.turns.serve_next_in_turn.Goals as goal

pub returns-in-Ok-clause-serves : goal.returns-in-Ok-clause-serves
returns-in-Ok-clause-serves g c =
    let read = c.in-Ok.ensures in
    let is = c.write_answer.ensures in
    served_step _ _ _ _ _ _ _ _ c.exchange_in_turn-answered.result.0 _ _ _ read.same (failed_last _ _ (g.N.Link.seen c.write_answer.new.link).health read.on) is.left read.answers
    c.exchange_in_turn-answered.ensures.answers is.wrote

pub returns-in-Err-clause-serves : goal.returns-in-Err-clause-serves
returns-in-Err-clause-serves g c =
    let read = c.in-Err.ensures in
    let new = (g.N.Link.seen c.end_without.new.link).health in
    served_without _ _ _ _ _ _ _ _ _ _ _ _ (goes_none _ _ _ _ _) read.same (failed_last _ _ new read.on)
    (λ is. (failed_first _ _ new c.end_without.ensures.link (read.cause (ap Err is)), stops_reading _ _ _ _ _ _ c.end_without.ensures.left is read.next)) read.answers c.end_without.ensures.wrote

pub returns-in-Ok-clause-crosses : goal.returns-in-Ok-clause-crosses
returns-in-Ok-clause-crosses g c =
    let read = c.in-Ok.ensures in
    step_crossed (in_lane g.S.Surface.pages c.args.lane)
    (GoesInTurns g.S.Surface.pages g.A.Opened.desk.opening g.A.Opened.clock.dial c.args.lane (pass_seen c.args.pass) (pass_seen c.exchange_in_turn-answered.result.1)) _ _ _ _ _ _ c.exchange_in_turn-answered.result.0 _ _ _
    (failed_last _ _ (g.N.Link.seen c.write_answer.new.link).health read.on) read.crossed c.exchange_in_turn-answered.ensures.answers c.write_answer.ensures.crossed

pub returns-in-Err-clause-crosses : goal.returns-in-Err-clause-crosses
returns-in-Err-clause-crosses g c =
    let read = c.in-Err.ensures in
    let new = (g.N.Link.seen c.end_without.new.link).health in
    without_crossed (in_lane g.S.Surface.pages c.args.lane) (GoesInTurns g.S.Surface.pages g.A.Opened.desk.opening g.A.Opened.clock.dial c.args.lane (pass_seen c.args.pass) (pass_seen c.args.pass)) _ _ _ _ _ _ _ _ c.end_without.result
    (goes_none _ _ _ _ _) (failed_last _ _ new read.on) (λ is. failed_first _ _ new c.end_without.ensures.link (read.cause (ap Err is))) read.crossed c.end_without.ensures.crossed

pub returns-in-Ok-clause-steady : goal.returns-in-Ok-clause-steady
returns-in-Ok-clause-steady g c = λ sound.
    ends_otherwise _ c.exchange_in_turn-answered.result.0 _ _ _ c.write_answer.ensures.wrote.2 (c.exchange_in_turn-answered.ensures.steady sound)

pub returns-in-Err-clause-steady : goal.returns-in-Err-clause-steady
returns-in-Err-clause-steady g c = λ sound. without_otherwise _ _ _ _ c.end_without.ensures.wrote.2

use Rattle.std.proofs.Common.{inl}
use Rattle.service.specs.Turning.{GoesInTurns}
use Rattle.service.proofs.ResponseLaws.{answers_of, text_otherwise}
use Rattle.turn_lock.specs.Passes.{pass_seen}
use Rattle.service.proofs.TurningLaws.{goes_none}
use Rattle.service.proofs.turns.exchange_in_turn.Goals as goal

pub returns-in-Ok-clause-answers : goal.returns-in-Ok-clause-answers
returns-in-Ok-clause-answers g c =
    answers_of g.S.Surface.pages c.args.lane (GoesInTurns g.S.Surface.pages g.A.Opened.desk.opening g.A.Opened.clock.dial c.args.lane (pass_seen c.args.pass) (pass_seen c.respond_as_wanted-responded.result.1)) c.args.wire.now
    c.respond_as_wanted-responded.result.0 c.text_of.result c.respond_as_wanted-responded.ensures.responds c.text_of.ensures

pub returns-in-Ok-clause-steady : goal.returns-in-Ok-clause-steady
returns-in-Ok-clause-steady g c = λ sound. text_otherwise c.respond_as_wanted-responded.result.0 c.text_of.result c.text_of.ensures (c.respond_as_wanted-responded.ensures.steady sound)

pub returns-in-Err-clause-answers : goal.returns-in-Err-clause-answers
returns-in-Err-clause-answers g c = inl (goes_none _ _ _ _ _)

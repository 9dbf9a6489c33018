use Rattle.std.proofs.Common.{false}
use Rattle.desk.specs.Seen.{desk_at}
use Rattle.desk_io.specs.Over.{over}
use Rattle.service.proofs.ResponseLaws.{answers_of, text_for, text_otherwise}
use Rattle.service.specs.Alone.{GoesOver}
use Rattle.service.proofs.exchange.exchange.Goals as goal

pub returns-in-Ok-clause-answers : goal.returns-in-Ok-clause-answers
returns-in-Ok-clause-answers g c =
    answers_of false c.args.lane (GoesOver c.args.lane (over g.C.Clock.seen c.args.clock.now c.respond-responded.new.clock) (over (desk_at g.K.Keeper.seen) c.args.desk.now c.respond-responded.new.desk)) c.args.wire.now
    c.respond-responded.result c.text_of.result c.respond-responded.ensures.responds c.text_of.ensures

pub returns-in-Ok-clause-steady : goal.returns-in-Ok-clause-steady
returns-in-Ok-clause-steady g c = λ sound. text_otherwise c.respond-responded.result c.text_of.result c.text_of.ensures (c.respond-responded.ensures.steady sound)

pub returns-in-Ok-clause-still : goal.returns-in-Ok-clause-still
returns-in-Ok-clause-still g c = λ other. c.respond-responded.ensures.still (text_for c.respond-responded.result c.text_of.result c.text_of.ensures other)

use Rattle.std.proofs.Common.{ap}
use Rattle.desk_state.specs.declared.lanes.Outcome.{Outcome}
use Rattle.service.proofs.AloneLaws.{call_responds}
use Rattle.service.proofs.exchange.respond_to_call.Goals as goal

pub returns-in-Ok-answer-clause-responds : goal.returns-in-Ok-answer-clause-responds
returns-in-Ok-answer-clause-responds g c =
    let given = c.in-Ok-answer.ensures.given in
    let read = c.in-Ok.ensures in
    call_responds _ _ _ _ _ _ _ _ c.args.call.now _ given.choice _ c.response_to.result c.requires.asked (read.range, read.told.0) read.told.1 given.counted
    (ap (λ (o : Outcome). o.said) given.is.its_outcome) given.is.its_state c.response_to.ensures.ok c.response_to.ensures.err

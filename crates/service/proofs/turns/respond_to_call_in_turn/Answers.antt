use Rattle.std.proofs.Common.{ap, subst}
use Rattle.service.specs.Connections.{wants_call}
use Rattle.service.proofs.TurningLaws.{call_fails, call_responds}
use Rattle.service.specs.Turns.{ComesOnce, said_in}
use Rattle.service.proofs.turns.respond_to_call_in_turn.Goals as goal

pub returns-in-Ok-clause-responds : goal.returns-in-Ok-clause-responds
returns-in-Ok-clause-responds g c =
    let once = subst (ComesOnce _ _ _ _ _ _) c.in-Ok.is c.answer_in_turn-answered.ensures.comes in
    call_responds _ _ _ _ _ _ _ c.args.call.now (said_in c.in-Ok.answered) c.response_to.result c.requires.asked once c.response_to.ensures.ok c.response_to.ensures.err

pub returns-in-Err-clause-responds : goal.returns-in-Err-clause-responds
returns-in-Err-clause-responds g c =
    let once = subst (ComesOnce _ _ _ _ _ _) c.in-Err.is c.answer_in_turn-answered.ensures.comes in
    call_fails g.S.Surface.pages g.A.Opened.desk.opening _ _ _ _ c.args.wire.now c.in-Err.why (ap wants_call c.requires.asked) once

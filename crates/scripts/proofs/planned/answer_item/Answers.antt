use Rattle.scripts.proofs.PlannedTicks.{bad_answered}
use Rattle.scripts.proofs.planned.answer_item.Goals as goal

pub returns-in-Err-clause-answered : goal.returns-in-Err-clause-answered
returns-in-Err-clause-answered g c = bad_answered _ _ _ c.args.item _ _ c.in-Err.is c.bad_line.ensures.outcome

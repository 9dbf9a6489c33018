use Rattle.scripts.specs.PlannedAnswers.{choice_of}
use Rattle.scripts.proofs.planned.answer_well.Goals as goal

pub returns-clause-answered : goal.returns-clause-answered
returns-clause-answered g c =
    let is = c.in_ok-answered.ensures in
    record { choice = choice_of c.in_ok-answered.answered; counted = is.count; stored = is.asks.stored; outcome_is = is.given.outcome_is; state_is = is.given.state_is; filed_is = is.filed }

use Rattle.scripts.proofs.planned.see_plans.Goals as goal

pub returns : goal.returns
returns c = c.now.ensures.board.plans

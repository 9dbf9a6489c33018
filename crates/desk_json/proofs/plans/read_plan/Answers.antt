use Rattle.desk_json.proofs.PlanLaws.{plan_forms, plan_is_again}
use Rattle.desk_json.proofs.plans.read_plan.Goals as goal

pub returns-clause-forms : goal.returns-clause-forms
returns-clause-forms c = plan_forms c.args.bytes.now c.plan_or_fault.result c.plan_or_fault.ensures.answer

pub returns-clause-again : goal.returns-clause-again
returns-clause-again c = plan_is_again c.args.bytes.now c.plan_or_fault.result c.plan_or_fault.ensures.answer

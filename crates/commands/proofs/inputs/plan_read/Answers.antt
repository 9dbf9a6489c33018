use Rattle.std.proofs.Common.{◌≡◌, subst}
use Rattle.std.specs.Prelude.{Err}
use Rattle.desk_json.specs.Plans.{AnswersPlan, plan_in}
use Rattle.desk_json.specs.declared.plans.PlanText.TheVariants.{NotPlan}
use Rattle.commands.proofs.InputLaws.{unread}
use Rattle.commands.proofs.inputs.plan_read.Goals as goal

pub returns-in-Err-NotPlan-clause-reads : goal.returns-in-Err-NotPlan-clause-reads
returns-in-Err-NotPlan-clause-reads c =
    let is : c.in-Err-NotPlan.field-0 ≡ NotPlan = cc in
    unread c.args.name.now c.args.text.now c.bad_input.result (subst (λ why. AnswersPlan (plan_in c.args.text.now) (Err why)) is c.in-Err-NotPlan.ensures.answer) c.bad_input.ensures

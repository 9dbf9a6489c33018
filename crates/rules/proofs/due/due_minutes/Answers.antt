use Rattle.std.proofs.Common.{subst, sym}
use Rattle.std.proofs.lemmas.Result.{IfOk-weaker}
use Rattle.rules.specs.Due.{AreDue}
use Rattle.rules.proofs.DueMinutes.{are_due}
use Rattle.rules.proofs.due.due_minutes.Goals as goal

pub returns-clause-due : goal.returns-clause-due
returns-clause-due c =
    IfOk-weaker c.minutes_in.result _ _ (λ minutes is. subst (AreDue c.args.plan.now c.args.phase c.args.settings) (sym is) (are_due c.args.plan.now c.args.phase c.args.settings)) c.minutes_in.ensures

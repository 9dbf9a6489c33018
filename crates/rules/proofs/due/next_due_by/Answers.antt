use Rattle.std.proofs.Common.{sym, subst}
use Rattle.rules.specs.Due.{IsNextDue, Stays, Lasts}
use Rattle.rules.proofs.NextDue.{next_due_is, lasts}
use Rattle.rules.proofs.UntilDue.{stays}
use Rattle.rules.proofs.due.next_due_by.Goals as goal

pub returns-clause-due : goal.returns-clause-due
returns-clause-due c = subst (IsNextDue c.args.plan.now c.args.phase c.args.settings c.args.moment) (sym c.due_in.ensures) (next_due_is _ _ _ _)

pub returns-clause-stays : goal.returns-clause-stays
returns-clause-stays c = subst (Stays c.args.plan.now c.args.phase c.args.settings c.args.moment) (sym c.due_in.ensures) (stays _ _ _ _ _ (next_due_is _ _ _ _))

pub returns-clause-lasts : goal.returns-clause-lasts
returns-clause-lasts c = subst (Lasts c.args.plan.now c.args.phase c.args.settings c.args.moment) (sym c.due_in.ensures) (lasts _ _ _ _)

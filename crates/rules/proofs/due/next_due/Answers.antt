use Rattle.std.proofs.Common.{subst}
use Rattle.rules.specs.Due.{IsNextDue, Stays, Lasts}
use Rattle.rules.proofs.due.next_due.Goals as goal

pub returns-clause-due : goal.returns-clause-due
returns-clause-due c = subst (λ settings. IsNextDue c.args.plan.now c.args.phase settings c.args.moment c.next_due_by.result) c.settings.ensures.value c.next_due_by.ensures.due

pub returns-clause-stays : goal.returns-clause-stays
returns-clause-stays c = subst (λ settings. Stays c.args.plan.now c.args.phase settings c.args.moment c.next_due_by.result) c.settings.ensures.value c.next_due_by.ensures.stays

pub returns-clause-lasts : goal.returns-clause-lasts
returns-clause-lasts c = subst (λ settings. Lasts c.args.plan.now c.args.phase settings c.args.moment c.next_due_by.result) c.settings.ensures.value c.next_due_by.ensures.lasts

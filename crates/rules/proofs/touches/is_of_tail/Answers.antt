use Rattle.std.proofs.Common.{◌≡◌, ◌↔◌, true, sym, subst, ◌∙◌}
use Rattle.rules.proofs.OpenFrame.{reads_open}
use Rattle.rules.proofs.TouchLaws.{ignores_tail, ignores_deferral, ignores_clearing, tail_exactly}
use Rattle.rules.proofs.touches.is_of_tail.Goals as goal

pub returns-clause-same : goal.returns-clause-same
returns-clause-same c = subst (λ b. (b ≡ true) ↔ (c.args.plan.now.tail ≡ c.args.tail.now)) (sym c.has_tail.ensures) (tail_exactly c.args.plan.now c.args.tail.now)

pub returns-clause-reads : goal.returns-clause-reads
returns-clause-reads c = reads_open c.args.plan.now

pub returns-clause-frame : goal.returns-clause-frame
returns-clause-frame c = λ e. ignores_tail c.args.plan.now c.args.tail.now (sym c.has_tail.ensures ∙ e)

pub returns-clause-deferred : goal.returns-clause-deferred
returns-clause-deferred c = λ e. ignores_deferral c.args.plan.now c.args.tail.now (sym c.has_tail.ensures ∙ e)

pub returns-clause-cleared : goal.returns-clause-cleared
returns-clause-cleared c = λ e. ignores_clearing c.args.plan.now c.args.tail.now (sym c.has_tail.ensures ∙ e)

use Rattle.std.proofs.Common.{sym, ◌∙◌}
use Rattle.plan.proofs.ChangeLaws.{may_follow}
use Rattle.plan.proofs.change.check_change.Goals as goal

pub returns-in-None-clause-may : goal.returns-in-None-clause-may
returns-in-None-clause-may c = may_follow _ _ _ c.requires.fits (sym c.fault_of_change.ensures ∙ c.in-None.is)

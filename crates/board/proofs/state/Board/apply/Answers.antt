use Rattle.board.proofs.Kept.{applied_again, applied_cause, applied_leads, applied_sweeps, applied_uses, installed_told}
use Rattle.board.proofs.state.Board.apply.Goals as goal

pub returns-clause-own : goal.returns-clause-own
returns-clause-own g c = applied_leads _ _ _ _ _ _ _ c.in_ok-prepared.ensures.stepped.state c.install.ensures.reply c.in_ok-prepared.ensures.own

pub returns-clause-told : goal.returns-clause-told
returns-clause-told g c = installed_told _ _ _ _ _ _ c.in_ok-prepared.ensures.stepped.state c.install.ensures.notices c.in_ok-prepared.ensures.told

pub returns-clause-used : goal.returns-clause-used
returns-clause-used g c = applied_uses _ _ _ c.in_ok-prepared.ensures.stepped.state c.in_ok-prepared.ensures.used

pub returns-clause-again : goal.returns-clause-again
returns-clause-again g c = applied_again _ _ _ _ c.in_ok-prepared.ensures.stepped.state c.in_ok-prepared.ensures.again

pub returns-clause-sweeps : goal.returns-clause-sweeps
returns-clause-sweeps g c =
    applied_sweeps _ _ _ _ _ _ c.in_ok-prepared.ensures.stepped.state c.install.ensures.reply c.in_ok-prepared.ensures.sweeps

pub returns-clause-cause : goal.returns-clause-cause
returns-clause-cause g c = applied_cause _ _ _ _ c.install.ensures.reply c.in_ok-prepared.ensures.cause

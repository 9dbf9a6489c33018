use Rattle.std.proofs.Common.{inr}
use Rattle.desk.proofs.Opened.{restored_keeps, restored_asks, restored_enters, restored_failed, restored_unsaved}
use Rattle.desk.proofs.opening.restore.Goals as goal

pub returns-clause-kept : goal.returns-clause-kept
returns-clause-kept g c =
    restored_keeps _ _ _ _ _ _ _ c.finish.result c.finish.ensures.board c.finish.ensures.ok c.requires.loaded c.in_ok-restored.ensures.board c.in_ok-restored.ensures.rows

pub returns-clause-asked : goal.returns-clause-asked
returns-clause-asked g c = restored_asks _ _ _ _ _ _ _ c.finish.ensures.asked c.in_ok-restored.ensures.changes

pub returns-clause-failed : goal.returns-clause-failed
returns-clause-failed g c = restored_failed _ _ _ _ _ _ _ c.finish.ensures.asked c.in_ok-restored.ensures.changes

pub returns-clause-account : goal.returns-clause-account
returns-clause-account g c = restored_enters c.finish.result _ _ _ _ c.in_ok-restored.ensures.changes c.finish.ensures.account

pub returns-clause-unsaved : goal.returns-clause-unsaved
returns-clause-unsaved g c = restored_unsaved c.finish.result _ _ _ _ _ _ c.in_ok-restored.ensures.changes c.finish.ensures.failed _ (λ why failed. inr failed)

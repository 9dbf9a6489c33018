use Rattle.keeper.proofs.SeenLaws.{commit_keeps, commit_leads}
use Rattle.desk.proofs.settling.commit.Goals as goal

pub returns-clause-ok : goal.returns-clause-ok
returns-clause-ok g c = commit_leads _ _ c.args.changes.now c.commit.result c.commit.ensures.ok c.commit.ensures.account

pub returns-clause-err : goal.returns-clause-err
returns-clause-err g c = commit_keeps _ _ c.args.changes.now c.commit.result c.commit.ensures.err c.commit.ensures.account

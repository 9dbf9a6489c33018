use Rattle.records.proofs.VersionLaws.{old_is_tested}
use Rattle.records.proofs.checking.check_rows.Goals as goal

pub returns : goal.returns
returns c = record { desk = c.in_ok-records.ensures; old = c.in_ok-is_old.ensures; exactly = old_is_tested c.args.rows.now c.in_ok-is_old.is_old c.in_ok-is_old.ensures }

use Rattle.desk_io.specs.declared.rows.Change.TheVariants.{Put, Remove}
use Rattle.keeper.proofs.OrderLaws.{rising_changed}
use Rattle.keeper.proofs.order.make.Goals as goal

pub returns-in-Put-clause-rising : goal.returns-in-Put-clause-rising
returns-in-Put-clause-rising c = rising_changed (Put c.in-Put.row) _ _ c.put_at.ensures.items c.requires.rising

pub returns-in-Remove-clause-rising : goal.returns-in-Remove-clause-rising
returns-in-Remove-clause-rising c = rising_changed (Remove c.in-Remove.kind c.in-Remove.key) _ _ c.put_at-in-Remove.ensures.items c.requires.rising

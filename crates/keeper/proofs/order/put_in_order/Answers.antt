use Rattle.keeper.proofs.SortLaws.{same_moved, rising_moved, already_moved}
use Rattle.keeper.proofs.order.put_in_order.Goals as goal

pub returns-clause-same : goal.returns-clause-same
returns-clause-same c = same_moved _ _ c.requires c.sort.ensures.moved

pub returns-clause-rising : goal.returns-clause-rising
returns-clause-rising c = rising_moved _ _ c.requires c.sort.ensures.moved c.sort.ensures.sorted

pub returns-clause-already : goal.returns-clause-already
returns-clause-already c = already_moved _ _ c.requires c.sort.ensures.moved c.sort.ensures.sorted

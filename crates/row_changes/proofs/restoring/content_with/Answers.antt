use Rattle.row_changes.proofs.RestoringLaws.{kept_rise}
use Rattle.row_changes.proofs.restoring.content_with.Goals as goal

pub from_parts-requires-clause-rising : goal.from_parts-requires-clause-rising
from_parts-requires-clause-rising c = kept_rise c.args.tables c.args.held c.in-Some.meta c.in-Some.is c.requires.holds

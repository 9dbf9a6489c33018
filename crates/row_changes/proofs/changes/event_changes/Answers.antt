use Rattle.row_changes.proofs.ShownLaws.{are_shown}
use Rattle.row_changes.proofs.changes.event_changes.Goals as goal

pub shown_changes-requires : goal.shown_changes-requires
shown_changes-requires c = are_shown _ _ c.args.entered.now.what _ _ c.holds.ensures c.requires.fits c.requires.kept c.requires.alerts

use Rattle.std.proofs.Common.{◌∙◌}
use Rattle.row_changes.proofs.JudgedLaws.{judged_opened}
use Rattle.board.proofs.restoring.reopen.Goals as goal

pub opened_changes-requires : goal.opened_changes-requires
opened_changes-requires g c = judged_opened _ _ c.requires.holds.bounds.moment c.requires.holds.judgeable (c.as_slice.ensures.value ∙ c.in_ok-alerts.ensures)

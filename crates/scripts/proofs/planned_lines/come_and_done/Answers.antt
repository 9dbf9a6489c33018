use Rattle.scripts.proofs.PlannedCome.{done_files}
use Rattle.scripts.proofs.planned_lines.come_and_done.Goals as goal

pub returns-clause-filed : goal.returns-clause-filed
returns-clause-filed g c = done_files c.done.result _ _ c.args.line _ _ _ c.in_ok-came.ensures.came c.done.ensures.says c.in_ok-came.ensures.filed

use Rattle.scripts.proofs.PlannedTicks.{refused_files}
use Rattle.scripts.proofs.planned_lines.once_ticked.Goals as goal

pub returns-in-Some-clause-filed : goal.returns-in-Some-clause-filed
returns-in-Some-clause-filed g c = refused_files c.args.line c.args.reply _ _ _ c.in-Some.is c.requires.refused c.said_at.ensures.said

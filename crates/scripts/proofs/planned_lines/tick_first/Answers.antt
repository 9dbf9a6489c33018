use Rattle.scripts.proofs.PlannedTicks.{step_refuses}
use Rattle.scripts.proofs.planned_lines.tick_first.Goals as goal

pub returns-in_ok-reply-clause-refused : goal.returns-in_ok-reply-clause-refused
returns-in_ok-reply-clause-refused g c = step_refuses c.in_ok-reply.field-0.reply c.in_ok-reply.field-0.fault c.args.desk.now.board.state c.args.at c.in_ok-reply.ensures.settled.reply

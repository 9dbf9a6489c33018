use Rattle.desk_json.proofs.AsLines.{planned_line}
use Rattle.desk_json.proofs.PlannedLaws.{planned_again, planned_finds, planned_tells}
use Rattle.desk_json.proofs.PlannedUnread.{planned_unread}
use Rattle.desk_json.proofs.planned.read_planned.Goals as goal

pub returns-clause-extra : goal.returns-clause-extra
returns-clause-extra c = planned_tells c.args.line.now c.planned_in_text.result c.planned_in_text.ensures.answer

pub returns-clause-unread : goal.returns-clause-unread
returns-clause-unread c = planned_unread c.args.line.now c.planned_in_text.result c.planned_in_text.ensures.answer

pub returns-clause-found : goal.returns-clause-found
returns-clause-found c = planned_finds c.args.line.now c.planned_in_text.result c.planned_in_text.ensures.answer

pub returns-clause-again : goal.returns-clause-again
returns-clause-again c = planned_again c.args.line.now c.planned_in_text.result c.planned_in_text.ensures.answer

pub returns-clause-as_line : goal.returns-clause-as_line
returns-clause-as_line c = planned_line c.args.line.now c.planned_in_text.result c.planned_in_text.ensures.answer

use Rattle.desk_json.proofs.AsLines.{shift_line}
use Rattle.desk_json.proofs.ShiftLaws.{shift_again, shift_finds, shift_tells}
use Rattle.desk_json.proofs.ShiftUnread.{shift_unread}
use Rattle.desk_json.proofs.shifts.read_shift.Goals as goal

pub returns-clause-extra : goal.returns-clause-extra
returns-clause-extra c = shift_tells c.args.line.now c.shift_in_text.result c.shift_in_text.ensures.answer

pub returns-clause-unread : goal.returns-clause-unread
returns-clause-unread c = shift_unread c.args.line.now c.shift_in_text.result c.shift_in_text.ensures.answer

pub returns-clause-found : goal.returns-clause-found
returns-clause-found c = shift_finds c.args.line.now c.shift_in_text.result c.shift_in_text.ensures.answer

pub returns-clause-again : goal.returns-clause-again
returns-clause-again c = shift_again c.args.line.now c.shift_in_text.result c.shift_in_text.ensures.answer

pub returns-clause-as_line : goal.returns-clause-as_line
returns-clause-as_line c = shift_line c.args.line.now c.shift_in_text.result c.shift_in_text.ensures.answer

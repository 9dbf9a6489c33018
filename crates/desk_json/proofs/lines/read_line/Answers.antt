use Rattle.std.proofs.lemmas.Result.{IfOk-weaker}
use Rattle.desk_json.proofs.Again.{line_again}
use Rattle.desk_json.proofs.Found.{line_finds}
use Rattle.desk_json.proofs.Least.{line_tells}
use Rattle.desk_json.proofs.Unread.{line_unread}
use Rattle.desk_json.proofs.lines.read_line.Goals as goal

pub returns-clause-extra : goal.returns-clause-extra
returns-clause-extra c = line_tells c.args.line.now c.line_in_text.result c.line_in_text.ensures.answer

pub returns-clause-unread : goal.returns-clause-unread
returns-clause-unread c = line_unread c.args.line.now c.line_in_text.result c.line_in_text.ensures.answer

pub returns-clause-found : goal.returns-clause-found
returns-clause-found c = line_finds c.args.line.now c.line_in_text.result c.line_in_text.ensures.answer

pub returns-clause-range : goal.returns-clause-range
returns-clause-range c = IfOk-weaker c.line_in_text.result _ _ (λ p is. is.0) c.line_in_text.ensures.forms

pub returns-clause-forms : goal.returns-clause-forms
returns-clause-forms c = IfOk-weaker c.line_in_text.result _ _ (λ p is. is.1) c.line_in_text.ensures.forms

pub returns-clause-again : goal.returns-clause-again
returns-clause-again c = line_again c.args.line.now c.line_in_text.result c.line_in_text.ensures.answer

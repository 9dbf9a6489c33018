use Rattle.desk_json.proofs.Again.{call_again}
use Rattle.desk_json.proofs.Found.{call_finds}
use Rattle.desk_json.proofs.Least.{call_tells}
use Rattle.desk_json.proofs.Unread.{call_unread}
use Rattle.desk_json.proofs.lines.read_call.Goals as goal

pub returns-clause-extra : goal.returns-clause-extra
returns-clause-extra c = call_tells c.args.bytes.now c.call_in_text.result c.call_in_text.ensures.answer

pub returns-clause-unread : goal.returns-clause-unread
returns-clause-unread c = call_unread c.args.bytes.now c.call_in_text.result c.call_in_text.ensures.answer

pub returns-clause-found : goal.returns-clause-found
returns-clause-found c = call_finds c.args.bytes.now c.call_in_text.result c.call_in_text.ensures.answer

pub returns-clause-again : goal.returns-clause-again
returns-clause-again c = call_again c.args.bytes.now c.call_in_text.result c.call_in_text.ensures.answer

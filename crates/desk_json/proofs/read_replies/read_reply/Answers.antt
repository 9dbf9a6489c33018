use Rattle.desk_json.proofs.ReplyAgain.{replies_again, replies_exact}
use Rattle.desk_json.proofs.read_replies.read_reply.Goals as goal

pub returns-clause-exact : goal.returns-clause-exact
returns-clause-exact c = replies_exact c.args.bytes.now c.reply_answer.result c.reply_answer.ensures.answer c.reply_answer.ensures.forms

pub returns-clause-again : goal.returns-clause-again
returns-clause-again c = replies_again c.args.bytes.now c.reply_answer.result c.reply_answer.ensures.answer

use Rattle.std.proofs.lemmas.Result.{IfOk-weaker}
use Rattle.desk_json.proofs.ReplyForms.{box_forms, box_shown}
use Rattle.desk_json.proofs.read_replies.reply_with_forms.Goals as goal

pub returns-clause-forms : goal.returns-clause-forms
returns-clause-forms c = IfOk-weaker c.reply_of.result _ _ (box_forms c.args.value.bytes.now) c.reply_of.ensures

pub returns-clause-shown : goal.returns-clause-shown
returns-clause-shown c = IfOk-weaker c.reply_of.result _ _ (box_shown c.args.value.bytes.now) c.reply_of.ensures

use Rattle.std.proofs.Common.{◌∙◌, ap}
use Rattle.serde_json.specs.Written.{compact_text}
use Rattle.desk_json.specs.Replies.{reply_text}
use Rattle.desk_json.proofs.Written.{reply_whole}
use Rattle.desk_json.proofs.replies.reply_text.Goals as goal

pub returns : goal.returns
unfolding reply_text
returns c = c.from_vec.ensures ∙ c.in_ok-to_vec.ensures.text (reply_whole c.args.reply.now _ c.in_ok-value.ensures) ∙ ap compact_text c.in_ok-value.ensures

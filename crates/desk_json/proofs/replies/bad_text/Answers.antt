use Rattle.std.proofs.Common.{◌∙◌, ap}
use Rattle.serde_json.specs.Written.{compact_text}
use Rattle.desk_json.specs.Replies.{bad_text}
use Rattle.desk_json.proofs.Written.{bad_whole}
use Rattle.desk_json.proofs.replies.bad_text.Goals as goal

pub returns : goal.returns
unfolding bad_text
returns c = c.from_vec.ensures ∙ c.in_ok-to_vec.ensures.text (bad_whole c.args.bad.now _ c.in_ok-value.ensures) ∙ ap compact_text c.in_ok-value.ensures

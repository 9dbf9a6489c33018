use Rattle.std.proofs.Common.{◌∙◌, ap}
use Rattle.serde_json.specs.Written.{compact_text}
use Rattle.desk_json.specs.LineReplies.{line_refusal_text}
use Rattle.desk_json.proofs.LineReplyLaws.{line_refusal_whole, line_refusal_json}
use Rattle.desk_json.proofs.line_replies.line_refusal_text.Goals as goal

pub returns-clause-text : goal.returns-clause-text
unfolding line_refusal_text
returns-clause-text c = c.from_vec.ensures ∙ c.in_ok-to_vec.ensures.text (line_refusal_whole c.args.refusal.now _ c.in_ok-value.ensures) ∙ ap compact_text c.in_ok-value.ensures

pub returns-clause-json : goal.returns-clause-json
returns-clause-json c = line_refusal_json c.args.refusal.now c.from_vec.result (returns-clause-text c)

use Rattle.std.proofs.Common.{◌∙◌, ap}
use Rattle.serde_json.specs.Written.{compact_text}
use Rattle.desk_json.specs.LineReplies.{seated_text}
use Rattle.desk_json.proofs.LineReplyLaws.{seated_whole, seated_json}
use Rattle.desk_json.proofs.line_replies.seated_text.Goals as goal

pub returns-clause-text : goal.returns-clause-text
unfolding seated_text
returns-clause-text c = c.from_vec.ensures ∙ c.in_ok-to_vec.ensures.text (seated_whole c.args.desk.now c.args.sitter.now _ c.in_ok-value.ensures) ∙ ap compact_text c.in_ok-value.ensures

pub returns-clause-json : goal.returns-clause-json
returns-clause-json c = seated_json c.args.desk.now c.args.sitter.now c.from_vec.result (returns-clause-text c)

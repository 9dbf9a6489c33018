use Rattle.std.proofs.Common.{◌∙◌, ap}
use Rattle.serde_json.specs.Written.{compact_text}
use Rattle.desk_json.specs.Canonical.{call_text}
use Rattle.desk_json.proofs.Written.{call_whole}
use Rattle.desk_json.proofs.written_calls.call_text.Goals as goal

pub returns : goal.returns
unfolding call_text
returns c = c.from_vec.ensures ∙ c.in_ok-to_vec.ensures.text (call_whole c.args.call.now _ c.in_ok-value.ensures) ∙ ap compact_text c.in_ok-value.ensures

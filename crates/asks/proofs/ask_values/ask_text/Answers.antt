use Rattle.std.proofs.Common.{◌∙◌, ap}
use Rattle.serde_json.specs.Written.{compact_text}
use Rattle.asks.proofs.Whole.{ask_is_whole}
use Rattle.asks.proofs.ask_values.ask_text.Goals as goal

pub returns : goal.returns
returns c = c.from_vec.ensures ∙ c.in_ok-to_vec.ensures.text (ask_is_whole c.args.ask.now _ c.in_ok-value.ensures) ∙ ap compact_text c.in_ok-value.ensures

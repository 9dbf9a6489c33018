use Rattle.std.proofs.Common.{◌∙◌, ap}
use Rattle.serde_json.specs.Written.{compact_text}
use Rattle.serde_json.specs.View.{view}
use Rattle.records.proofs.Whole.{body_is_whole}
use Rattle.records.specs.Lent.{lent}
use Rattle.records.proofs.bodies.body_text.Goals as goal

pub returns : goal.returns
returns c =
    c.from_vec.ensures ∙ c.in_ok-to_vec.ensures.text (body_is_whole c.args.version (lent c.args.held.now) (view c.in_ok-value.value) c.in_ok-value.ensures) ∙ ap compact_text c.in_ok-value.ensures

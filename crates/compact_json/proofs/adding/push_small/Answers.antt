use Rattle.std.proofs.Common.{◌∷◌, []}
use Rattle.std.proofs.lemmas.Result.{on_ok_weaker}
use Rattle.compact_json.proofs.BoxLaws.{small_box}
use Rattle.compact_json.proofs.adding.push_small.Goals as goal

pub returns : goal.returns
returns c = on_ok_weaker c.push_all.result (λ e. record { added = c.args.byte ∷ []; longer = e; is_box = small_box c.args.byte c.requires }) c.push_all.ensures.ok

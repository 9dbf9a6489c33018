use Rattle.std.proofs.Common.{sym, ap}
use Rattle.std.specs.Prelude.{nat_le}
use Rattle.serde_json.proofs.Views.{items_len-items_view}
use Rattle.compact_json.proofs.lent.RefValueJson.are_at_most.Goals as goal

pub returns : goal.returns
returns c = ap (λ n. nat_le n c.args.count) (sym (items_len-items_view c.args.items.now))

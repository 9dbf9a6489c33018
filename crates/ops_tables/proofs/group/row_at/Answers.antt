use Rattle.std.proofs.Common.{◌∙◌, ap, sym, ◌+◌, ◌∷◌, drop}
use Rattle.ops_tables.specs.Order.{picked}
use Rattle.ops_tables.proofs.Orders.{picked_at}
use Rattle.ops_tables.proofs.group.row_at.Goals as goal

pub returns : goal.returns
returns g c =
    picked_at c.args.rows.now c.args.places.now c.args.place c.index-rows-at.result c.requires.there c.requires.within
    ∙ ap (λ x. x ∷ drop (c.args.place + 1) (picked c.args.rows.now c.args.places.now)) (sym c.index-rows-at.is)

use Rattle.std.proofs.Common.{◌∙◌, ap, sym, List, length}
use Rattle.ops_tables.proofs.Orders.{picked_length}
use Rattle.ops_tables.proofs.group.Group.len.Goals as goal

pub returns : goal.returns
returns g c = sym (picked_length c.self.inside.rows.now c.self.inside.places.now c.self.invariant) ∙ ap (λ (xs : List _). length xs) c.self.view_is

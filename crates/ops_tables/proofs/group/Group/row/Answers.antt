use Rattle.std.proofs.Common.{ap, List, length, arith}
use Rattle.ops_tables.proofs.Orders.{picked_length}
use Rattle.ops_tables.proofs.group.Group.row.Goals as goal

pub row_at-requires-clause-within : goal.row_at-requires-clause-within
row_at-requires-clause-within g c =
    let as_many = ap (λ (xs : List _). length xs) c.self.view_is in
    let same = picked_length c.self.inside.rows.now c.self.inside.places.now c.self.invariant in
    omega (arith, as_many, same, c.requires)

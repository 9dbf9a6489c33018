use Rattle.std.proofs.Common.{◌≡◌, ◌&&◌, drop, nat_lt, slice_get}
use Rattle.std.specs.List.{list_any}
use Rattle.ops_tables.specs.Order.{is_same_as}
use Rattle.ops_tables.proofs.order.has_earlier.Given as goal

abbrev pub invariant-loop-other : goal.invariant-loop-other
invariant-loop-other g l =
    list_any (λ other. nat_lt other l.place && is_same_as g.R.Row.is_same_key l.row (slice_get l.rows other)) (drop l.other-index l.places)
    ≡ list_any (λ other. nat_lt other l.place && is_same_as g.R.Row.is_same_key l.row (slice_get l.rows other)) l.places

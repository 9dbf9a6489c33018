use Rattle.std.proofs.Common.{◌≡◌, ◌∙◌, ap, sym, ◌&&◌, ℕ, Some, take, nat_lt, slice_get}
use Rattle.std.specs.List.{list_any}
use Rattle.ops_tables.specs.Order.{places_at, is_same_as, is_doubled_by}
use Rattle.ops_tables.proofs.Orders.{there, doubled_in_group}
use Rattle.ops_tables.proofs.order.is_doubled.Goals as goal

pub returns : goal.returns
returns g c =
    let rows = c.args.rows.now in
    let place = c.args.place in
    let row = c.index-rows-place.result in
    let name = g.R.Row.name in
    let same = g.R.Row.is_same_key in
    let at : slice_get rows place ≡ Some row = there rows place row c.requires.within ∙ ap Some (sym c.index-rows-place.is) in
    c.has_earlier.ensures
    ∙ ap (list_any (λ (other : ℕ). nat_lt other place && is_same_as same row (slice_get rows other)))
    (c.places_at.ensures ∙ ap (λ s. places_at g.row.N name rows s c.args.order.now) c.group_name.ensures)
    ∙ doubled_in_group g.row.N name same g.met.R.Row.same_group rows c.args.order.now row place c.requires.order
    ∙ ap (is_doubled_by same (take place rows)) (sym at)

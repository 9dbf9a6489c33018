use Rattle.std.proofs.Common.{◌∙◌, ap, ◌<◌, ℕ, length, bytes_eq}
use Rattle.std.proofs.lemmas.List.Elements.{All-filter, All-same}
use Rattle.ops_tables.specs.Order.{picked, places_at, name_at}
use Rattle.ops_tables.proofs.Orders.{picked_group}
use Rattle.ops_tables.proofs.grouped.group_in.Goals as goal

pub of-requires : goal.of-requires
of-requires g c =
    All-same (λ (place : ℕ). place < length c.args.rows.now) c.places_at.result.now (places_at g.row.N g.R.Row.name c.args.rows.now c.args.name.now c.args.order.now) c.places_at.ensures
    (All-filter (λ (place : ℕ). bytes_eq (name_at g.row.N g.R.Row.name c.args.rows.now place) c.args.name.now) (λ (place : ℕ). place < length c.args.rows.now) c.args.order.now c.requires.order.within)

pub returns : goal.returns
returns g c =
    c.of.ensures ∙ ap (picked c.args.rows.now) (c.places_at.ensures ∙ c.requires.order.groups c.args.name.now)
    ∙ picked_group g.row.N g.R.Row.name c.args.name.now c.args.rows.now

use Rattle.std.proofs.Common.{rules}
use Rattle.std.proofs.lemmas.List.Sorted.{IsPartitionPoint-from_clause}
use Rattle.keeper.specs.Order.{is_below}
use Rattle.keeper.proofs.PlaceLaws.{parted, put_parted, stands_within}
use Rattle.keeper.proofs.order.place_of.Goals as goal

pub returns-clause-within : goal.returns-clause-within
returns-clause-within c =
    rw c.stands_at.ensures (stands_within c.args.kind c.args.key c.args.rows.now c.partition_point-place.result c.partition_point-place.ensures.bound)

pub returns-clause-place : goal.returns-clause-place
returns-clause-place c put =
    let rows = c.args.rows.now in
    let place = c.partition_point-place in
    let parts = IsPartitionPoint-from_clause (is_below c.args.kind c.args.key) rows place.result place.ensures.partitioned (parted c.args.kind c.args.key rows c.requires) (λ a r f called. search rules) in
    rw c.stands_at.ensures (put_parted c.args.kind c.args.key put rows place.result place.ensures.bound parts.0 parts.1)

use Rattle.std.proofs.Common.{rules}
use Rattle.std.proofs.lemmas.List.Sorted.{IsPartitionPoint-from_clause}
use Rattle.deferrals.proofs.Halves.{is_below, parted, placed, opened}
use Rattle.deferrals.proofs.by_tail.place_from.Goals as goal

pub returns-clause-place : goal.returns-clause-place
returns-clause-place c =
    let ds = c.args.held.now in
    let parts = IsPartitionPoint-from_clause (is_below c.args.id) ds c.partition_point.result c.partition_point.ensures.partitioned (parted c.args.id ds c.requires) (λ a r f called. search rules) in
    placed c.args.id ds c.partition_point.result c.requires parts.0 parts.1

pub returns-clause-open : goal.returns-clause-open
returns-clause-open c tail =
    let ds = c.args.held.now in
    let parts = IsPartitionPoint-from_clause (is_below c.args.id) ds c.partition_point.result c.partition_point.ensures.partitioned (parted c.args.id ds c.requires) (λ a r f called. search rules) in
    opened c.args.id tail ds c.partition_point.result c.requires parts.0 parts.1

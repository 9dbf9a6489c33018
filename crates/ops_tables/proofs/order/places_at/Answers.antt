use Rattle.std.proofs.Common.{rules, ℕ, is_lt, nat_cmp, bytes_eq}
use Rattle.std.specs.Cmp.Lexicographic.{slice_cmp}
use Rattle.std.proofs.lemmas.List.Sorted.{IsPartitionPoint-from_clause}
use Rattle.ops_tables.specs.Order.{name_at}
use Rattle.ops_tables.proofs.Orders.{parted_before, parted_rest, rest_run}
use Rattle.ops_tables.proofs.order.places_at.Goals as goal

pub returns : goal.returns
returns g c =
    let name = λ (place : ℕ). name_at g.row.N g.R.Row.name c.args.rows.now place in
    let s = c.args.name.now in
    let order = c.args.order.now in
    let rest = c.after-rest.result.now in
    let start = c.partition_point-start.result in
    let first = IsPartitionPoint-from_clause (λ place. is_lt (slice_cmp nat_cmp (name place) s)) order start c.partition_point-start.ensures.partitioned
    (parted_before name s order c.requires.order.sorted) (λ a r f h. search rules) in
    let second = IsPartitionPoint-from_clause (λ place. bytes_eq (name place) s) rest c.partition_point-count.result c.partition_point-count.ensures.partitioned
    (parted_rest name s order rest start c.after-rest.ensures c.requires.order.sorted first) (λ a r f h. search rules) in
    rest_run name s order rest start c.partition_point-count.result c.after-rest.ensures first c.partition_point-start.ensures.bound second c.partition_point-count.ensures.bound

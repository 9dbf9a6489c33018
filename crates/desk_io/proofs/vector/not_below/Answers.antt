use Rattle.std.proofs.Common.{rules, ◌∙◌}
use Rattle.std.proofs.lemmas.List.{take_rest}
use Rattle.std.proofs.lemmas.List.Sorted.{IsPartitionPoint-from_clause}
use Rattle.std.specs.Ordering.{is_lt, is_ge}
use Rattle.desk_io.proofs.KeyRunLaws.{parted_below, from_key}
use Rattle.desk_io.proofs.SortedEdits.{sorted_filtered}
use Rattle.desk_io.proofs.vector.not_below.Goals as goal

pub returns-clause-value : goal.returns-clause-value
returns-clause-value g c =
    let es = c.args.entries.now in
    let place = c.partition_point-place in
    let parts = IsPartitionPoint-from_clause (λ e. is_lt (g.K.Ord.cmp e.0 c.args.low.now)) es place.result place.ensures.partitioned (parted_below g.K.Ord.cmp g.met.K.Ord.total c.args.low.now es c.requires) (λ a r f called. search rules) in
    take_rest es place.result ∙ from_key g.K.Ord.cmp g.met.K.Ord.total c.args.low.now es place.result parts.0 parts.1

pub returns-clause-sorted : goal.returns-clause-sorted
returns-clause-sorted g c = sorted_filtered g.K.Ord.cmp (λ e. is_ge (g.K.Ord.cmp e.0 c.args.low.now)) c.args.entries.now _ (returns-clause-value g c) c.requires

use Rattle.std.proofs.Common.{◌∙◌, ap, filter}
use Rattle.std.specs.Ordering.{is_le, is_ge}
use Rattle.desk_io.specs.Sorted.{within}
use Rattle.desk_io.proofs.KeyRunLaws.{filtered_twice}
use Rattle.desk_io.proofs.vector.Sorted.run.Goals as goal

pub returns-clause-value : goal.returns-clause-value
returns-clause-value g c =
    let cmp = g.K.Ord.cmp in
    c.not_above.ensures.value
    ∙ ap (filter (λ e. is_le (cmp e.0 c.args.high.now))) c.not_below.ensures.value
    ∙ filtered_twice (λ e. is_ge (cmp e.0 c.args.low.now)) (λ e. is_le (cmp e.0 c.args.high.now)) c.as_slice.result.now
    ∙ ap (filter (λ e. within cmp c.args.low.now c.args.high.now e.0)) c.as_slice.ensures.value

use Rattle.std.proofs.Common.{◌∙◌, sym, arith}
use Rattle.std.proofs.lemmas.List.Filters.{FiltersInPlace-more_swap, FiltersInPlace-more_no}
use Rattle.facts.proofs.ReindexLaws.{stays_by_place}
use Rattle.facts.proofs.sweeping.sweep_held.Goals as goal

-- the test by places is that of what stays
pub loop-from-preserved : goal.loop-from-preserved
loop-from-preserved c =
    let tested = stays_by_place c.args.before c.args.keep.now c.args.stations.now.entries c.args.held.now.items c.loop-from.held.items c.loop-from.to c.loop-from.from c.index.result.now c.stays_at.result
    c.requires.rising c.requires.index c.loop-from.invariant (omega arith) c.index.ensures c.stays_at.ensures in
    elim c.if-stays_at.branch [
      | goal.then-stays_at w ↦ rw (w.held-is, w.to-is) (FiltersInPlace-more_swap c.loop-from.invariant (omega arith) (sym tested ∙ w.if-stays_at.true) c.index.ensures w.swap.ensures.by_index)
      | goal.else-stays_at w ↦ rw (w.held-is, w.to-is) (FiltersInPlace-more_no c.loop-from.invariant (omega arith) (sym tested ∙ w.if-stays_at.false) c.index.ensures)
    ]

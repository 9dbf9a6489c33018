use Rattle.std.proofs.Common.{◌∙◌, ap, arith, lt-ltb, le-ltb}
use Rattle.std.proofs.lemmas.List.Filters.{FiltersInPlace-more_swap, FiltersInPlace-more_no, FiltersInPlace-all}
use Rattle.desk_io.proofs.SortedEdits.{sorted_filtered, values_below}
use Rattle.desk_io.proofs.vector.Sorted+K+usize.keep_below.Goals as goal

pub loop-from-preserved : goal.loop-from-preserved
loop-from-preserved g c = elim c.if-index-limit.branch [
  | goal.then-index-limit w ↦ rw (w.self-inside-is, w.to-is) (FiltersInPlace-more_swap c.loop-from.invariant (omega arith) (lt-ltb _ _ w.if-index-limit.true) c.index.ensures w.swap.ensures.by_index)
  | goal.else-index-limit w ↦ rw (w.self-inside-is, w.to-is) (FiltersInPlace-more_no c.loop-from.invariant (omega arith) (le-ltb _ _ w.if-index-limit.false) c.index.ensures)
]

pub invariant_of-self : goal.invariant_of-self
invariant_of-self g c = sorted_filtered g.K.Ord.cmp _ c.self.inside.held.items c.truncate.new.self.items (c.truncate.ensures.items ∙ FiltersInPlace-all c.loop-from.invariant (omega arith)) c.self.invariant

pub returns : goal.returns
returns g c q =
    values_below g.K.Ord.cmp g.met.K.Ord.total c.args.limit c.self.inside.held.items c.args.self.now.entries c.truncate.new.self.items q (ap (λ s. s.entries) c.self.view_is)
    (c.truncate.ensures.items ∙ FiltersInPlace-all c.loop-from.invariant (omega arith)) c.self.invariant

use Rattle.std.proofs.Common.{arith}
use Rattle.records.proofs.MarkLaws.{indexed_more, get_again}
use Rattle.records.proofs.marks.index_of.Goals as goal

pub loop-place-preserved : goal.loop-place-preserved
loop-place-preserved c =
    indexed_more c.loop-place.firsts.entries c.note_both.new.firsts.entries c.args.marks.now _ c.loop-place.place c.loop-place.invariant (omega arith) (get_again c.args.marks.now c.loop-place.place _ (omega arith)) c.in_ok-note_both.ensures

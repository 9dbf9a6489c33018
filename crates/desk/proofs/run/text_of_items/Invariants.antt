use Rattle.std.proofs.Common.{length}
use Rattle.desk.specs.Keeping.{kept_at}
use Rattle.desk.specs.Seen.{desk_seen, DeskGoesOn}
use Rattle.desk.proofs.Told.{AreToldSoFar}
use Rattle.desk.proofs.run.text_of_items.Given as goal

abbrev pub invariant-loop-out : goal.invariant-loop-out
invariant-loop-out g l = record {
  told : AreToldSoFar 1 (kept_at (g.K.Keeper.seen l.fn.desk.keeper)) (kept_at (g.K.Keeper.seen l.desk.keeper))
      l.fn.desk.board.state (g.I.Items.left l.fn.items) l.desk.board.state (g.I.Items.left l.items) l.out.items;
  on : DeskGoesOn (desk_seen g.K.Keeper.seen g.B.Bell.seen l.fn.desk) (desk_seen g.K.Keeper.seen g.B.Bell.seen l.desk);
}

abbrev pub decreases-loop-out : goal.decreases-loop-out
decreases-loop-out g l = length (g.I.Items.left l.items)

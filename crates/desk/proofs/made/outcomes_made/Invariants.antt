use Rattle.desk.specs.Keeping.{kept_at}
use Rattle.desk.specs.Seen.{desk_seen, DeskGoesOn}
use Rattle.desk.proofs.MadeLaws.{MadeSoFar}
use Rattle.made_items.specs.Makers.{how_many}
use Rattle.desk.proofs.made.outcomes_made.Given as goal

abbrev pub invariant-loop-outcomes : goal.invariant-loop-outcomes
invariant-loop-outcomes g l = record {
  made : MadeSoFar (kept_at (g.K.Keeper.seen l.fn.desk.keeper)) (kept_at (g.K.Keeper.seen l.desk.keeper)) l.fn.desk.board.state l.number l.count l.desk.board.state l.maker l.outcomes.items;
  on : DeskGoesOn (desk_seen g.K.Keeper.seen g.B.Bell.seen l.fn.desk) (desk_seen g.K.Keeper.seen g.B.Bell.seen l.desk);
}

abbrev pub decreases-loop-outcomes : goal.decreases-loop-outcomes
decreases-loop-outcomes g l = how_many l.maker

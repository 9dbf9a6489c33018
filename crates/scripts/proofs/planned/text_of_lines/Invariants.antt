use Rattle.std.proofs.Common.{drop}
use Rattle.std.specs.List.{AllByRecursion}
use Rattle.desk.specs.Keeping.{kept_at}
use Rattle.desk.specs.Seen.{desk_seen, DeskGoesOn}
use Rattle.redispatch.specs.Filed.{HasFormedPlan}
use Rattle.scripts.proofs.PlannedTelling.{AreToldSoFar}
use Rattle.scripts.specs.PlannedRuns.{planned_items}
use Rattle.scripts.proofs.planned.text_of_lines.Given as goal

abbrev pub invariant-loop-line : goal.invariant-loop-line
invariant-loop-line g l = record {
  told : AreToldSoFar (kept_at (g.K.Keeper.seen l.fn.desk.keeper)) (kept_at (g.K.Keeper.seen l.desk.keeper)) l.fn.desk.board.state (planned_items l.lines) l.desk.board.state l.planned
      (planned_items (drop l.line-index l.lines)) l.out.items;
  plans : AllByRecursion HasFormedPlan l.planned;
  on : DeskGoesOn (desk_seen g.K.Keeper.seen g.B.Bell.seen l.fn.desk) (desk_seen g.K.Keeper.seen g.B.Bell.seen l.desk);
}

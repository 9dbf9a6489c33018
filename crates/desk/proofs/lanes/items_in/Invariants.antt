use Rattle.std.proofs.Common.{◌≡◌, ◌++◌, drop}
use Rattle.std.specs.List.{AllByRecursion}
use Rattle.desk.specs.Run.{items_of}
use Rattle.desk_state.specs.Repeats.{IsAskable}
use Rattle.desk.proofs.lanes.items_in.Given as goal

abbrev pub invariant-loop-line : goal.invariant-loop-line
invariant-loop-line l = record {
  items : l.items.items ++ items_of (drop l.line-index l.lines) ≡ items_of l.lines;
  form : AllByRecursion IsAskable l.items.items;
}

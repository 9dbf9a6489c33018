use Rattle.std.proofs.Common.{◌≡◌, ◌≤◌, ◌+◌, ◌-◌, ◌^◌, drop, length, min}
use Rattle.std.specs.List.{sum_by}
use Rattle.desk.specs.Round.{items_in}
use Rattle.desk.proofs.running.items_of_all.Given as goal

abbrev pub invariant-loop-lane : goal.invariant-loop-lane
invariant-loop-lane l = record {
  sum : min (l.all + sum_by (λ lane. length (items_in lane)) (drop l.lane-index l.lanes)) (2 ^ 64 - 1) ≡ min (sum_by (λ lane. length (items_in lane)) l.lanes) (2 ^ 64 - 1);
  few : l.all ≤ 2 ^ 64 - 1;
}

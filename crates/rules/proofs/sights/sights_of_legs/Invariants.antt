use Rattle.std.proofs.Common.{◌≡◌, ◌+◌, ◌++◌, length, drop}
use Rattle.std.specs.List.{AllByRecursion}
use Rattle.std.specs.Option.{option_copied, option_map}
use Rattle.plan.specs.Check.{HasMoments}
use Rattle.rules.specs.Sights.{case_by, sights_from}
use Rattle.rules.proofs.sights.sights_of_legs.Given as goal

abbrev pub invariant-loop-i : goal.invariant-loop-i
invariant-loop-i l = record {
  seen : l.sights.items ++ sights_from l.times (option_map case_by (option_copied l.circumstances)) (l.i + 1) (drop l.i l.legs)
      ≡ sights_from l.times (option_map case_by (option_copied l.circumstances)) 1 l.legs;
  count : length l.sights.items ≡ l.i;
  rest : AllByRecursion HasMoments (drop l.i l.legs);
}

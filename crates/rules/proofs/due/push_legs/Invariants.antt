use Rattle.std.proofs.Common.{◌≡◌, ◌+◌, drop}
use Rattle.std.specs.List.{AllByRecursion}
use Rattle.plan.specs.Check.{HasMoments}
use Rattle.rules.specs.Sights.{all_dues}
use Rattle.rules.proofs.due.push_legs.Given as goal

abbrev pub invariant-loop-i : goal.invariant-loop-i
invariant-loop-i l = record {
  made : all_dues l.times (l.i + 1) l.minutes (drop l.i l.legs) ≡ all_dues l.times 1 l.fn.minutes l.legs;
  rest : AllByRecursion HasMoments (drop l.i l.legs);
}

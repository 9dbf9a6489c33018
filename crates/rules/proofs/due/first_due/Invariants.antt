use Rattle.std.proofs.Common.{◌≡◌, ◌+◌, drop}
use Rattle.std.specs.List.{AllByRecursion}
use Rattle.codes.specs.Cond.{lesser}
use Rattle.plan.specs.Check.{HasMoments}
use Rattle.rules.specs.Sights.{first_due}
use Rattle.rules.proofs.due.first_due.Given as goal

abbrev pub invariant-loop-i : goal.invariant-loop-i
invariant-loop-i l = record {
  least : lesser l.least (first_due l.times (l.i + 1) (drop l.i l.legs)) ≡ first_due l.times 1 l.legs;
  rest : AllByRecursion HasMoments (drop l.i l.legs);
}

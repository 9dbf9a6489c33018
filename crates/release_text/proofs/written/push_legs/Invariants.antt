use Rattle.std.proofs.Common.{◌≡◌, ◌+◌, ◌++◌, drop}
use Rattle.std.specs.List.{AllByRecursion}
use Rattle.plan.specs.Check.{HasMoments}
use Rattle.release_text.specs.Text.{legs_text}
use Rattle.release_text.proofs.written.push_legs.Given as goal

abbrev pub invariant-loop-i : goal.invariant-loop-i
invariant-loop-i l = record {
  lines : l.out.items ++ legs_text (l.i + 1) (drop l.i l.legs) ≡ l.fn.out.items ++ legs_text 1 l.legs;
  rest : AllByRecursion HasMoments (drop l.i l.legs);
}

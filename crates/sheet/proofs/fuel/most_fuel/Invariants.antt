use Rattle.std.proofs.Common.{◌≡◌, drop, max}
use Rattle.plan.specs.Fuel.{most_fuel}
use Rattle.sheet.proofs.fuel.most_fuel.Given as goal

abbrev pub invariant-loop-alternate : goal.invariant-loop-alternate
invariant-loop-alternate l = max l.most (most_fuel (drop l.alternate-index l.alternates)) ≡ most_fuel l.alternates

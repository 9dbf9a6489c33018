use Rattle.std.proofs.Common.{◌≡◌, ◌+◌, None, drop, option_copied}
use Rattle.plan.specs.Check.{first_fault}
use Rattle.plan.proofs.check.first_fault.Given as goal

abbrev pub invariant-loop-i : goal.invariant-loop-i
invariant-loop-i l = first_fault l.tables (l.i + 1) (option_copied l.before) (drop l.i l.legs) ≡ first_fault l.tables 1 None l.legs

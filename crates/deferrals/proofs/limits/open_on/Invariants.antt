use Rattle.std.proofs.Common.{◌≡◌, ◌≤◌, ◌++◌, length, drop, map}
use Rattle.deferrals.specs.Limits.{open_on}
use Rattle.deferrals.proofs.limits.open_on.Given as goal

abbrev pub invariant-loop-deferral : goal.invariant-loop-deferral
invariant-loop-deferral l =
    (map (λ d. d.now) l.open.items ++ open_on l.tail (drop l.deferral-index l.list) ≡ open_on l.tail l.list)
    × (length l.open.items ≤ l.deferral-index)

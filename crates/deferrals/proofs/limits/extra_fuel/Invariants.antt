use Rattle.std.proofs.Common.{◌≡◌, ◌≤◌, ◌+◌, ◌*◌, drop, map, sum}
use Rattle.deferrals.proofs.limits.extra_fuel.Given as goal

abbrev pub invariant-loop-row : goal.invariant-loop-row
invariant-loop-row l =
    (l.pounds + sum (map (λ row. row.extra_fuel) (map (λ row. row.now) (drop l.row-index l.rows))) ≡ sum (map (λ row. row.extra_fuel) (map (λ row. row.now) l.rows)))
    × (l.pounds ≤ 100_000 * l.row-index)

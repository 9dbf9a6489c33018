use Rattle.std.proofs.Common.{◌≡◌, ◌++◌, drop, map, filter, not}
use Rattle.ops_tables.specs.Names.{has_name}
use Rattle.deferrals.specs.Limits.{once, capabilities_of}
use Rattle.deferrals.proofs.limits.lost_by.Given as goal

abbrev pub invariant-loop-row : goal.invariant-loop-row
invariant-loop-row l =
    l.lost ++ filter (λ name. not (has_name l.lost name)) (once (capabilities_of (map (λ row. row.now) (drop l.row-index l.rows)))) ≡ once (capabilities_of (map (λ row. row.now) l.rows))

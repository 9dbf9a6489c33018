use Rattle.std.proofs.Common.{◌≡◌, ◌≤◌, ◌++◌, length, drop, map, All}
use Rattle.ops_tables.specs.Limits.{FitsItem}
use Rattle.deferrals.specs.Limits.{rows_of}
use Rattle.deferrals.proofs.limits.rows_of.Given as goal

abbrev pub invariant-loop-deferral : goal.invariant-loop-deferral
invariant-loop-deferral l =
    (map (λ row. row.now) l.rows.items ++ rows_of l.tables l.kind (map (λ d. d.now) (drop l.deferral-index l.deferred)) ≡ rows_of l.tables l.kind (map (λ d. d.now) l.deferred))
    × (length l.rows.items ≤ l.deferral-index)
    × All (λ row. FitsItem row.now) l.rows.items

use Rattle.std.proofs.Common.{◌≡◌, ◌++◌, map, drop}
use Rattle.desk_io.specs.declared.rows.Change.TheVariants as change
use Rattle.row_changes.proofs.changes.push_removals.Given as goal

abbrev pub invariant-loop-key : goal.invariant-loop-key
invariant-loop-key l =
    l.changes.items ++ map (λ key. change.Remove l.kind key) (drop l.key-index l.keys) ≡ l.fn.changes.items ++ map (λ key. change.Remove l.kind key) l.keys

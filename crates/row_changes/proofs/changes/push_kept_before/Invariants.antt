use Rattle.std.proofs.Common.{◌≡◌, ◌++◌, map, drop}
use Rattle.desk_io.specs.declared.rows.Change.TheVariants as change
use Rattle.desk_state.specs.Requests.{kept_before}
use Rattle.row_changes.proofs.changes.push_kept_before.Given as goal

abbrev pub invariant-loop-reply : goal.invariant-loop-reply
invariant-loop-reply l =
    l.changes.items ++ map (λ k. change.Remove 4 k.id) (kept_before l.before (drop l.reply-index l.kept))
    ≡ l.fn.changes.items ++ map (λ k. change.Remove 4 k.id) (kept_before l.before l.kept)

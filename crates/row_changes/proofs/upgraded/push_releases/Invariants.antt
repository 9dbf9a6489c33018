use Rattle.std.proofs.Common.{◌≡◌, ◌++◌, map, drop}
use Rattle.records.specs.declared.record.Record.TheVariants.{Release}
use Rattle.row_changes.specs.Changes.{put_row}
use Rattle.row_changes.proofs.upgraded.push_releases.Given as goal

abbrev pub invariant-loop-release : goal.invariant-loop-release
invariant-loop-release l =
    l.changes.items ++ map (λ r. put_row (Release r)) (drop l.release-index l.releases) ≡ l.fn.changes.items ++ map (λ r. put_row (Release r)) l.releases

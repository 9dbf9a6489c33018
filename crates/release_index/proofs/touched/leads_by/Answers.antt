use Rattle.std.proofs.Common.{sym}
use Rattle.release_index.specs.Bounds.{ReleaseInBounds}
use Rattle.release_index.specs.Changes.{has_id}
use Rattle.release_index.proofs.BoolLaws.{found_each}
use Rattle.release_index.proofs.touched.leads_by.Goals as goal

pub is_due_at-requires : goal.is_due_at-requires
is_due_at-requires c = found_each ReleaseInBounds (has_id c.args.key.1) c.args.held.now.list c.in-Some.release.now c.requires (sym c.in-Some.ensures)

use Rattle.std.proofs.Common.{◌≡◌, drop}
use Rattle.std.specs.Map.{keys_of}
use Rattle.release_index.specs.Chosen.{chosen_onto, leads_where}
use Rattle.release_index.specs.Touched.{touched_at}
use Rattle.release_index.proofs.touched.push_at.Given as goal

abbrev pub invariant-loop-entry : goal.invariant-loop-entry
invariant-loop-entry l =
    chosen_onto (leads_where (touched_at l.station) l.held.list) l.ids.items (keys_of (drop l.entry-index l.run))
    ≡ chosen_onto (leads_where (touched_at l.station) l.held.list) l.fn.ids.items (keys_of l.run)

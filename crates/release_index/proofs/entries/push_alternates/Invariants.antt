use Rattle.std.proofs.Common.{◌≡◌, drop}
use Rattle.release_index.specs.Entries.{alternates_onto}
use Rattle.release_index.proofs.entries.push_alternates.Given as goal

abbrev pub invariant-loop-it : goal.invariant-loop-it
invariant-loop-it l = alternates_onto l.id l.keys.items (drop l.it-index l.listed) ≡ alternates_onto l.id l.fn.keys.items l.listed

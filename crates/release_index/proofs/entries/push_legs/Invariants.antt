use Rattle.std.proofs.Common.{◌≡◌, ◌+◌, drop}
use Rattle.release_index.specs.Entries.{legs_onto}
use Rattle.release_index.proofs.entries.push_legs.Given as goal

abbrev pub invariant-loop-i : goal.invariant-loop-i
invariant-loop-i l = legs_onto l.id l.phase (l.i + 1) l.keys.items (drop l.i l.legs) ≡ legs_onto l.id l.phase 1 l.fn.keys.items l.legs

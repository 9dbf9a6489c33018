use Rattle.std.proofs.Common.{◌≡◌, drop}
use Rattle.release_index.specs.Entries.{minutes_onto}
use Rattle.release_index.proofs.entries.push_minutes.Given as goal

abbrev pub invariant-loop-minute : goal.invariant-loop-minute
invariant-loop-minute l = minutes_onto l.id l.keys.items (drop l.minute-index l.minutes) ≡ minutes_onto l.id l.fn.keys.items l.minutes

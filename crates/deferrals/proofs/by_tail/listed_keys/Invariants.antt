use Rattle.std.proofs.Common.{◌≡◌, ◌++◌, map, drop}
use Rattle.deferrals.specs.ByTail.{entry_of}
use Rattle.deferrals.proofs.by_tail.listed_keys.Given as goal

abbrev pub invariant-loop-deferral : goal.invariant-loop-deferral
invariant-loop-deferral l = l.keys.items ++ map entry_of (drop l.deferral-index l.held) ≡ map entry_of l.held

use Rattle.std.proofs.Common.{◌≡◌, ◌++◌, drop, map}
use Rattle.std.specs.Map.{keys_of}
use Rattle.deferrals.specs.ByTail.{open_by}
use Rattle.deferrals.proofs.by_tail.open_by.Given as goal

abbrev pub invariant-loop-entry : goal.invariant-loop-entry
invariant-loop-entry l =
    map (λ d. d.now) l.open.items ++ open_by l.tail l.held (keys_of (drop l.entry-index l.keys)) ≡ open_by l.tail l.held (keys_of l.keys)

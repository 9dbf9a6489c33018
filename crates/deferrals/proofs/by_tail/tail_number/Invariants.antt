use Rattle.std.proofs.Common.{◌≡◌, drop}
use Rattle.deferrals.specs.ByTail.{number_from}
use Rattle.deferrals.proofs.by_tail.tail_number.Given as goal

abbrev pub invariant-loop-byte : goal.invariant-loop-byte
invariant-loop-byte l = number_from l.number (drop l.byte-index l.tail) ≡ number_from 0 l.tail

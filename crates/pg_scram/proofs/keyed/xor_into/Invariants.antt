use Rattle.std.proofs.Common.{◌≡◌, ◌++◌, length, take, drop}
use Rattle.pg_scram.specs.Keyed.{xors}
use Rattle.pg_scram.proofs.keyed.xor_into.Given as goal

abbrev pub invariant-loop-i : goal.invariant-loop-i
invariant-loop-i l =
    (take l.i l.bytes ++ xors (drop l.i l.bytes) (drop l.i l.others) ≡ xors l.fn.bytes l.others) × (length l.bytes ≡ length l.fn.bytes)

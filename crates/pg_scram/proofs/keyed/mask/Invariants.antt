use Rattle.std.proofs.Common.{◌≡◌, ◌++◌, length, take, drop}
use Rattle.pg_scram.specs.Keyed.{pad}
use Rattle.pg_scram.proofs.keyed.mask.Given as goal

abbrev pub invariant-loop-i : goal.invariant-loop-i
invariant-loop-i l = (take l.i l.block ++ pad l.byte (drop l.i l.block) ≡ pad l.byte l.fn.block) × (length l.block ≡ length l.fn.block)

use Rattle.std.proofs.Common.{◌≡◌, ◌+◌, drop}
use Rattle.sheet.specs.Nearest.{nearest_from, nearest_of}
use Rattle.sheet.proofs.nearest.nearest_of.Given as goal

abbrev pub invariant-loop-i : goal.invariant-loop-i
invariant-loop-i l = nearest_from l.weather l.found (l.i + 1) (drop l.i l.minima) ≡ nearest_of l.weather l.minima

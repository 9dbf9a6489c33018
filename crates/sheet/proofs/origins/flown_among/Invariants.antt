use Rattle.std.proofs.Common.{◌≡◌, ◌+◌, ◌++◌, drop, map}
use Rattle.airport_minima.specs.Minima.{is_usable}
use Rattle.sheet.specs.Origins.{seen, flown_from}
use Rattle.sheet.proofs.origins.flown_among.Given as goal

abbrev pub invariant-loop-place : goal.invariant-loop-place
invariant-loop-place l =
    map seen l.flown.items ++ flown_from (is_usable l.kind l.lost) (l.place + 1) (drop l.place l.approaches) ≡ flown_from (is_usable l.kind l.lost) 1 l.approaches

use Rattle.std.proofs.Common.{◌≡◌, ◌+◌, drop}
use Rattle.release_text.specs.Concerned.{stations_from, with_stations}
use Rattle.release_text.proofs.airports.add_legs.Given as goal

abbrev pub invariant-loop-i : goal.invariant-loop-i
invariant-loop-i l =
    with_stations l.found.items (stations_from l.phase (l.i + 1) (drop l.i l.legs)) ≡ with_stations l.fn.found.items (stations_from l.phase 1 l.legs)

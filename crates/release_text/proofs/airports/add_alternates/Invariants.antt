use Rattle.std.proofs.Common.{◌≡◌, drop}
use Rattle.release_text.specs.Concerned.{alternate_stations, with_stations}
use Rattle.release_text.proofs.airports.add_alternates.Given as goal

abbrev pub invariant-loop-alternate : goal.invariant-loop-alternate
invariant-loop-alternate l =
    with_stations l.found.items (alternate_stations (drop l.alternate-index l.alternates)) ≡ with_stations l.fn.found.items (alternate_stations l.alternates)

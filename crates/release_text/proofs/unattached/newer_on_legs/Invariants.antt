use Rattle.std.proofs.Common.{◌≡◌, ◌+◌, drop}
use Rattle.codes.specs.Cond.{lesser}
use Rattle.release_text.specs.Concerned.{stations_from}
use Rattle.release_text.specs.Weather.{newer_of}
use Rattle.release_text.proofs.unattached.newer_on_legs.Given as goal

abbrev pub invariant-loop-i : goal.invariant-loop-i
invariant-loop-i l =
    lesser l.least (newer_of l.reports.reports l.attached (stations_from l.phase (l.i + 1) (drop l.i l.legs)))
    ≡ newer_of l.reports.reports l.attached (stations_from l.phase 1 l.legs)

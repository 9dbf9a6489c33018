use Rattle.std.proofs.Common.{◌≡◌, drop}
use Rattle.codes.specs.Cond.{lesser}
use Rattle.release_text.specs.Concerned.{alternate_stations}
use Rattle.release_text.specs.Weather.{newer_of}
use Rattle.release_text.proofs.unattached.newer_at_alternates.Given as goal

abbrev pub invariant-loop-alternate : goal.invariant-loop-alternate
invariant-loop-alternate l =
    lesser l.least (newer_of l.reports.reports l.attached (alternate_stations (drop l.alternate-index l.alternates)))
    ≡ newer_of l.reports.reports l.attached (alternate_stations l.alternates)

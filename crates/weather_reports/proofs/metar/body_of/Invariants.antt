use Rattle.std.proofs.Common.{◌≡◌, ◌+◌, drop}
use Rattle.weather_reports.specs.MetarReading.{body_length}
use Rattle.weather_reports.proofs.metar.body_of.Given as goal

abbrev pub invariant-loop-i : goal.invariant-loop-i
invariant-loop-i l = l.i + body_length (drop l.i l.groups) ≡ body_length l.groups

use Rattle.std.proofs.Common.{◌≡◌, ◌+◌, drop}
use Rattle.std.specs.List.{position_or_len}
use Rattle.weather_reports.specs.Parts.{ends_stretch}
use Rattle.weather_reports.proofs.parts.stretch.Given as goal

abbrev pub invariant-loop-i : goal.invariant-loop-i
invariant-loop-i l = l.i + position_or_len ends_stretch (drop l.i l.groups) ≡ position_or_len ends_stretch l.groups

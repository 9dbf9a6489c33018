use Rattle.std.proofs.Common.{◌≡◌, ◌+◌, drop}
use Rattle.weather_reports.specs.TafReading.{modifier_count}
use Rattle.weather_reports.proofs.reader.modifier_count.Given as goal

abbrev pub invariant-loop-i : goal.invariant-loop-i
invariant-loop-i l = l.i + modifier_count (drop l.i l.groups) ≡ modifier_count l.groups

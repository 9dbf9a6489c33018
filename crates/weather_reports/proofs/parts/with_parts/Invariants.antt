use Rattle.std.proofs.Common.{◌≡◌, ◌+◌, [], length, All}
use Rattle.weather_reports.specs.Parts.{HasMoments, onto, parts_of}
use Rattle.weather_reports.proofs.parts.with_parts.Given as goal

abbrev pub invariant-loop-rest : goal.invariant-loop-rest
invariant-loop-rest l = record {
  parts : onto l.parts (parts_of l.before l.at l.rest l.first_day l.until) ≡ onto l.fn.parts (parts_of [] l.number l.groups l.first_day l.until);
  count : l.at + length l.rest ≡ l.number + length l.groups;
  moments : All HasMoments l.parts;
}

abbrev pub decreases-loop-rest : goal.decreases-loop-rest
decreases-loop-rest l = length l.rest

use Rattle.std.proofs.Common.{◌≤◌, ◌<◌, ◌+◌, ◌*◌, length, option_copied}
use Rattle.weather_window.specs.Values.{ceiling, visibility}
use Rattle.weather_window.specs.Window.{value_at, worst_value}
use Rattle.weather_window.specs.Changes.{changes_between, part_count}
use Rattle.weather_window.proofs.WindowLaws.{Reached}
use Rattle.weather_window.proofs.window.worst_over.Given as goal

abbrev pub invariant-loop-next : goal.invariant-loop-next
invariant-loop-next g l = record {
  within : l.seen ≤ l.to;
  ceiling : Reached (value_at ceiling (option_copied l.taf) (option_copied l.metar) l.hold) l.worst.ceiling (worst_value ceiling (option_copied l.taf) (option_copied l.metar) l.hold l.fn.from l.to) l.seen l.to;
  vis : Reached (value_at visibility (option_copied l.taf) (option_copied l.metar) l.hold) l.worst.vis (worst_value visibility (option_copied l.taf) (option_copied l.metar) l.hold l.fn.from l.to) l.seen l.to;
  some : l.fn.steps < l.steps;
  few : l.steps + length (changes_between (option_copied l.taf) (option_copied l.metar) l.hold l.seen l.to) ≤ l.fn.steps + (3 * part_count (option_copied l.taf) + 5);
}

abbrev pub decreases-loop-next : goal.decreases-loop-next
decreases-loop-next g l = length (changes_between (option_copied l.taf) (option_copied l.metar) l.hold l.seen l.to)

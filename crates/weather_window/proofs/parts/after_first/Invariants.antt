use Rattle.std.proofs.Common.{◌≡◌, drop}
use Rattle.weather_window.specs.Values.{ceiling, visibility}
use Rattle.weather_window.specs.Running.{held_after, only}
use Rattle.weather_window.proofs.parts.after_first.Given as goal

abbrev pub invariant-loop-part : goal.invariant-loop-part
invariant-loop-part l = record {
  ceiling : held_after ceiling l.minute l.ceiling (drop l.part-index l.after) ≡ held_after ceiling l.minute (only l.first.cond.ceiling) l.after;
  vis : held_after visibility l.minute l.vis (drop l.part-index l.after) ≡ held_after visibility l.minute (only l.first.cond.vis) l.after;
}

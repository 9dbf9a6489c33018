use Rattle.std.proofs.Common.{◌≡◌, drop}
use Rattle.weather_window.specs.Changes.{part_changes}
use Rattle.weather_window.specs.Running.{soonest}
use Rattle.weather_window.proofs.changes.with_parts.Given as goal

abbrev pub invariant-loop-part : goal.invariant-loop-part
invariant-loop-part l =
    soonest l.stretch.after l.stretch.to l.soonest (part_changes (drop l.part-index l.parts)) ≡ soonest l.stretch.after l.stretch.to l.fn.found (part_changes l.parts)

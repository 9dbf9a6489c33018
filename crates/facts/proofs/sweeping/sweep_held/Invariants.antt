use Rattle.std.proofs.lemmas.List.Filters.{FiltersInPlace}
use Rattle.facts.specs.Swept.{stays}
use Rattle.facts.proofs.sweeping.sweep_held.Given as goal

abbrev pub invariant-loop-from : goal.invariant-loop-from
invariant-loop-from l = FiltersInPlace (stays l.before l.keep l.initial.held.items) l.initial.held.items l.held.items l.to l.from

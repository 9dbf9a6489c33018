use Rattle.std.proofs.Common.{◌≡◌, ◌++◌, map, drop, not, filter}
use Rattle.facts.specs.Swept.{stays}
use Rattle.facts.proofs.sweeping.leaving_ids.Given as goal

abbrev pub invariant-loop-place : goal.invariant-loop-place
invariant-loop-place l =
    l.ids ++ map (λ r. r.id) (filter (λ r. not (stays l.before l.keep l.held r)) (drop l.place l.held)) ≡ map (λ r. r.id) (filter (λ r. not (stays l.before l.keep l.held r)) l.held)

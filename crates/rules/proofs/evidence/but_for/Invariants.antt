use Rattle.std.proofs.Common.{◌≡◌, ◌++◌, drop}
use Rattle.std.specs.Prelude.{map}
use Rattle.deferrals.specs.Held.{without}
use Rattle.rules.proofs.evidence.but_for.Given as goal

abbrev pub invariant-loop-deferral : goal.invariant-loop-deferral
invariant-loop-deferral l =
    map (λ d. d.now) l.others.items ++ without l.id (map (λ d. d.now) (drop l.deferral-index l.list)) ≡ without l.id (map (λ d. d.now) l.list)

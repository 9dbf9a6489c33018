use Rattle.std.proofs.Common.{◌≡◌, ◌++◌, drop}
use Rattle.std.specs.Prelude.{map}
use Rattle.rules.specs.Judgement.{finding}
use Rattle.rules.proofs.judgement.push_places.Given as goal

abbrev pub invariant-loop-place : goal.invariant-loop-place
invariant-loop-place l =
    l.findings ++ map (finding l.rule l.leg) (drop l.place-index l.places) ≡ l.fn.findings ++ map (finding l.rule l.leg) l.places

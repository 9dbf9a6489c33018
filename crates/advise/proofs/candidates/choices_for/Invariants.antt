use Rattle.std.proofs.Common.{◌≡◌, ◌++◌, drop}
use Rattle.advise.specs.Candidates.{choices_for}
use Rattle.advise.proofs.candidates.choices_for.Given as goal

abbrev pub invariant-loop-candidate : goal.invariant-loop-candidate
invariant-loop-candidate l = l.choices.items ++ choices_for l.leg (drop l.candidate-index l.candidates) ≡ choices_for l.leg l.candidates

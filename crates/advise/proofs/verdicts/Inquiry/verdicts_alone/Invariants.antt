use Rattle.std.proofs.Common.{◌≡◌, ◌≤◌, ◌+◌, ◌∷◌, [], map, take}
use Rattle.advise.specs.Verdicts.{verdict_in}
use Rattle.advise.proofs.verdicts.Inquiry.verdicts_alone.Given as goal

abbrev pub invariant-loop-choice : goal.invariant-loop-choice
invariant-loop-choice g l = record {
  made : l.verdicts.items ≡ map (λ it. verdict_in l.self (it ∷ [])) (take l.choice-index l.choices);
  counted : l.steps ≤ l.initial.steps + l.choice-index;
}

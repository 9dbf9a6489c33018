use Rattle.std.proofs.lemmas.Bool.{MatchBool-at_true}
use Rattle.std.proofs.lemmas.List.Sorted.{non_decreasing_from_is_sorted}
use Rattle.facts.proofs.sweeping.are_sorted.Goals as goal

pub returns : goal.returns
returns c = λ yes. MatchBool-at_true _ _ yes (non_decreasing_from_is_sorted _ _ c.is_sorted.ensures.cases)

use Rattle.std.proofs.lemmas.List.Sorted.{IsNonDecreasingBy-from_sort}
use Rattle.decisions.proofs.AttachedLaws.{among_sorted}
use Rattle.decisions.proofs.sweeps.attached_ids.Goals as goal

pub returns-clause-rising : goal.returns-clause-rising
returns-clause-rising c = IsNonDecreasingBy-from_sort (λ x. x) _ c.sort_unstable.ensures.sorted

pub returns-clause-among : goal.returns-clause-among
returns-clause-among c = among_sorted _ _ c.args.releases.now c.in_ok-ids.ensures c.sort_unstable.ensures.permutation

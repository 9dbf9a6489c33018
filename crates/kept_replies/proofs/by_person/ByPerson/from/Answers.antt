use Rattle.std.specs.List.Sorted.{IsStrictlySortedBy}
use Rattle.kept_replies.proofs.by_person.ByPerson.from.Goals as goal

pub returns-in-None-clause-sorted : goal.returns-in-None-clause-sorted
unfolding IsStrictlySortedBy
returns-in-None-clause-sorted c = tt

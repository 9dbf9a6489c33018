use Rattle.std.proofs.Common.{rules}
use Rattle.std.proofs.lemmas.List.Sorted.{answers_always}
use Rattle.keeper.proofs.SortLaws.{place, sorted_places}
use Rattle.keeper.proofs.order.sort.Goals as goal

pub returns-clause-sorted : goal.returns-clause-sorted
returns-clause-sorted c =
    let sort = c.sort_unstable_by_key in
    sorted_places sort.new.self.items (sort.ensures.sorted place (answers_always _ _ _ (λ f a r g h. search rules)))

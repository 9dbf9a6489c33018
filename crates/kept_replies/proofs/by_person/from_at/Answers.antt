use Rattle.std.proofs.Common.{sym, ap, ◌∙◌, filter}
use Rattle.std.specs.Ordering.{is_ge}
use Rattle.kept_replies.specs.Index.{key_cmp}
use Rattle.kept_replies.proofs.SetLaws.{at_index}
use Rattle.kept_replies.proofs.by_person.from_at.Goals as goal

pub returns-clause-value : goal.returns-clause-value
returns-clause-value c =
    c.from.ensures.value ∙ ap (filter (λ k. is_ge (key_cmp k c.args.low.now))) (sym (at_index c.args.sets.now c.args.place c.index-sets-place.result c.index-sets-place.is c.requires))

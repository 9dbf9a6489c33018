use Rattle.std.proofs.Common.{sym, subst}
use Rattle.kept_replies.specs.ByPerson.{HaveOne, HasSameKeys}
use Rattle.kept_replies.proofs.SetLaws.{but_changed, changed_length, same_in}
use Rattle.kept_replies.proofs.by_person.widen.Goals as goal

pub returns-in-Some-clause-same : goal.returns-in-Some-clause-same
returns-in-Some-clause-same c = same_in c.in-Some.place _ _ c.reserve_at.ensures.same

pub returns-in-Some-clause-many : goal.returns-in-Some-clause-many
returns-in-Some-clause-many c = changed_length HasSameKeys c.in-Some.place _ _ c.reserve_at.ensures.same

pub returns-in-Some-clause-have : goal.returns-in-Some-clause-have
returns-in-Some-clause-have c =
    subst (λ o. HaveOne o c.reserve_at.new.sets.items) (sym c.in-Some.is)
    (but_changed HasSameKeys c.in-Some.place _ _ c.reserve_at.ensures.same (subst (λ o. HaveOne o c.args.sets.now.items) c.in-Some.is c.requires.have))

use Rattle.kept_replies.specs.ByPerson.{HasSameKeys}
use Rattle.kept_replies.proofs.SetLaws.{changed_at, filled_ok}
use Rattle.kept_replies.proofs.by_person.reserve_at.Goals as goal

pub returns-clause-same : goal.returns-clause-same
returns-clause-same c =
    changed_at HasSameKeys c.args.sets.now.items c.args.place c.index_mut-set.result.now c.reserve.new.self c.index_mut-set.ensures.value c.requires.within c.reserve.ensures.same

pub returns-clause-ok : goal.returns-clause-ok
returns-clause-ok c = filled_ok c.reserve.result c.args.sets.now.items c.args.place c.reserve.new.self c.requires.have c.reserve.ensures.room

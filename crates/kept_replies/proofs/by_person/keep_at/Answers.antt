use Rattle.kept_replies.specs.ByPerson.{IsKept}
use Rattle.kept_replies.specs.Index.{leads_to}
use Rattle.kept_replies.proofs.SetLaws.{changed_at}
use Rattle.kept_replies.proofs.by_person.keep_at.Goals as goal

pub returns-clause-kept : goal.returns-clause-kept
returns-clause-kept c =
    changed_at (IsKept (leads_to c.args.kept.now.list)) c.args.sets.now.items c.args.place c.index_mut-set.result.now c.keep_leading.new.set c.index_mut-set.ensures.value c.requires
    (record { keys = c.keep_leading.ensures.keys; room = c.keep_leading.ensures.room })

use Rattle.kept_replies.specs.ByPerson.{IsPut}
use Rattle.kept_replies.proofs.SetLaws.{changed_at, room_at}
use Rattle.kept_replies.proofs.by_person.put_at.Goals as goal

pub put_reserved-requires : goal.put_reserved-requires
put_reserved-requires c =
    record { room = room_at c.args.sets.now.items c.args.place c.index_mut-set.result.now c.requires.room c.index_mut-set.ensures.value c.requires.within }

pub returns : goal.returns
returns c =
    changed_at (IsPut c.args.key) c.args.sets.now.items c.args.place c.index_mut-set.result.now c.put_reserved.new.self c.index_mut-set.ensures.value c.requires.within
    (record { each = c.put_reserved.ensures.each })

use Rattle.desk_io.specs.Over.{over}
use Rattle.workers.proofs.DoorLaws.{back_out, continues_back, given_counts, given_keeps, room_in}
use Rattle.workers.specs.Doorways.{at_door}
use Rattle.workers.proofs.doorway.Doorway.give_back.Goals as goal

pub invariant_of-self : goal.invariant_of-self
invariant_of-self g c =
    let inside = c.self.inside in
    let done = c.give_back_one-lacks in
    let old = at_door inside.door inside.memory inside.failed inside.passages.list in (
      given_counts c.args.worker c.args.visited (over g.D.Door.seen inside.door done.new.door) inside.passages.list done.new.passages.list inside.count c.saturating_add-self-inside.result done.result done.ensures c.self.invariant.0
          (room_in old _ c.self.view_is c.requires) c.saturating_add-self-inside.ensures,
      given_keeps g.D.Door.seen old c.args.worker c.args.visited done.new.door c.either-self-inside.result done.new.passages.list done.result c.self.invariant.1 c.either-self-inside.ensures done.ensures,
    )

pub returns-clause-went : goal.returns-clause-went
returns-clause-went g c =
    let inside = c.self.inside in
    let done = c.give_back_one-lacks in
    back_out (at_door inside.door inside.memory inside.failed inside.passages.list) _ c.args.worker c.args.visited (over g.D.Door.seen inside.door done.new.door) done.new.passages.list done.result c.self.view_is done.ensures

pub returns-clause-list : goal.returns-clause-list
returns-clause-list g c = continues_back c.args.worker _ _ c.args.visited (returns-clause-went g c)

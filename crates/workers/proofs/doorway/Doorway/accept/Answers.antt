use Rattle.desk_io.specs.Over.{over}
use Rattle.workers.proofs.DoorLaws.{accepted_came, accepted_counts, accepted_failed, accepted_keeps, accepted_none, came_out, continues_accept, continues_same, failed_out, none_more, none_out, room_in}
use Rattle.workers.specs.Doorways.{at_door}
use Rattle.workers.proofs.doorway.Doorway.accept.Goals as goal

pub invariant_of-self : goal.invariant_of-self
invariant_of-self g c =
    let inside = c.self.inside in
    let done = c.accept_one-next in
    let old = at_door inside.door inside.memory inside.failed inside.passages.list in (
      accepted_counts c.args.worker (over g.D.Door.seen inside.door done.new.door) inside.passages.list done.new.passages.list inside.count c.saturating_add-self-inside.result done.result done.ensures c.self.invariant.0
          (room_in old _ c.self.view_is c.requires) c.saturating_add-self-inside.ensures,
      accepted_keeps g.D.Door.seen old c.args.worker done.new.door done.new.passages.list done.result c.is_none-self-inside.result c.self.invariant.1 c.if-self.false done.ensures c.is_none-self-inside.ensures,
    )

pub returns-clause-came : goal.returns-clause-came
returns-clause-came g c =
    let inside = c.self.inside in
    let done = c.accept_one-next in
    came_out (at_door inside.door inside.memory inside.failed inside.passages.list) _ c.args.worker done.new.passages.list done.result c.self.view_is
    (accepted_came c.args.worker (over g.D.Door.seen inside.door done.new.door) inside.passages.list done.new.passages.list done.result done.ensures)

pub returns-clause-none : goal.returns-clause-none
returns-clause-none g c =
    let inside = c.self.inside in
    let done = c.accept_one-next in
    none_out (at_door inside.door inside.memory inside.failed inside.passages.list) _ c.args.worker done.new.passages.list done.result c.self.view_is
    (accepted_none c.args.worker (over g.D.Door.seen inside.door done.new.door) inside.passages.list done.new.passages.list done.result done.ensures)

pub returns-clause-failed : goal.returns-clause-failed
returns-clause-failed g c =
    let inside = c.self.inside in
    let done = c.accept_one-next in accepted_failed c.args.worker (over g.D.Door.seen inside.door done.new.door) inside.passages.list done.new.passages.list done.result done.ensures

pub returns-clause-list : goal.returns-clause-list
returns-clause-list g c = continues_accept c.args.worker _ _ c.accept_one-next.result (returns-clause-came g c) (returns-clause-none g c)

pub returns-then-self-clause-none : goal.returns-then-self-clause-none
returns-then-self-clause-none g c = none_more c.args.worker _

pub returns-then-self-clause-failed : goal.returns-then-self-clause-failed
returns-then-self-clause-failed g c =
    let inside = c.self.inside in failed_out g.D.Door.seen (at_door inside.door inside.memory inside.failed inside.passages.list) _ c.self.view_is c.self.invariant.1 c.if-self.true

pub returns-then-self-clause-list : goal.returns-then-self-clause-list
returns-then-self-clause-list g c = continues_same c.args.worker _

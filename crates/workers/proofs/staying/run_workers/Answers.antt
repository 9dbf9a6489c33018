use Rattle.std.proofs.Common.{◌∙◌, inr, refl}
use Rattle.turn_lock.specs.Passes.{pass_numbers, pass_seen, pass_splits}
use Rattle.connections.specs.declared.doors.ServeEnd.TheVariants as ends
use Rattle.workers.proofs.StayLaws.{bears_none, door_same, first_part, none_at_first, none_worked, passages_same, stayed_as}
use Rattle.workers.proofs.staying.run_workers.Goals as goal

pub new-requires : goal.new-requires
new-requires g c = bears_none c.new-doorway.result c.args.door c.new-doorway.ensures

pub returns-in-Ok-clause-run : goal.returns-in-Ok-clause-run
returns-in-Ok-clause-run g c = λ port list opened goes_last.
    c.run_at.ensures.run c.args.door (c.in-Ok.ensures.ok.seen ∙ passages_same c.new-doorway.result _ _ c.new-doorway.ensures refl) port list opened goes_last

pub returns-in-Ok-clause-count : goal.returns-in-Ok-clause-count
returns-in-Ok-clause-count g c = c.run_at.ensures.count c.args.door (c.in-Ok.ensures.ok.seen ∙ passages_same c.new-doorway.result _ _ c.new-doorway.ensures refl)

pub returns-in-Err-clause-run : goal.returns-in-Err-clause-run
returns-in-Err-clause-run g c = λ port list opened goes_last.
    let value = c.in-Err.field-0.value in
    let same = first_part c.into_parts-door.result value.door value.memory c.into_parts-door.ensures.parts ∙ door_same value c.new-doorway.result c.args.door c.in-Err.ensures.err c.new-doorway.ensures in
    stayed_as g.T.Listed.bears g.W.Serving.says g.B.Beside.does g.D.Door.seen (g.D.Door.seen c.args.door) c.args.door c.into_parts-door.result.0 list port c.args.workers ends.OutOfMemory ends.OutOfMemory same refl
    (none_worked g.T.Listed.bears g.W.Serving.says g.B.Beside.does (g.D.Door.seen c.args.door) (g.D.Door.seen c.args.door) (pass_seen c.args.pass) list (pass_numbers c.args.pass) (pass_splits c.args.pass) port c.args.workers
    ends.OutOfMemory c.requires.none c.requires.first.1 c.requires.first.0 refl refl (inr refl) (λ is. absurd (cc is)) goes_last)

pub run_at-requires-clause-none_at_door : goal.run_at-requires-clause-none_at_door
run_at-requires-clause-none_at_door g c κs within = none_at_first c.args.door _ (c.in-Ok.ensures.ok.seen ∙ passages_same c.new-doorway.result _ _ c.new-doorway.ensures refl)

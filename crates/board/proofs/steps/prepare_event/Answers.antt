use Rattle.std.proofs.Common.{refl, subst, ◌∙◌}
use Rattle.desk_state.specs.Contents.{Held}
use Rattle.desk_state.specs.Sound.{InBounds}
use Rattle.board.proofs.Kept.{planned_is, planned_keeps, planned_may}
use Rattle.board.proofs.steps.prepare_event.Goals as goal

pub returns-in-Ok-clause-stepped : goal.returns-in-Ok-clause-stepped
returns-in-Ok-clause-stepped g c =
    planned_is _ _ _ _ _ _ _ _ (c.planned.ensures.reply ∙ c.replied.ensures) c.planned.ensures.notices c.planned.ensures.event refl c.requires.recorded c.in-Ok.ensures.changes c.in-Ok.ensures.notices c.requires.fits
    c.content-content.ensures.sound

pub returns-in-Ok-clause-may : goal.returns-in-Ok-clause-may
returns-in-Ok-clause-may g c =
    planned_may c.args.held.now.state c.work_out.new.held c.planned.result c.args.effect c.in-Ok.judged c.args.recorded.entered c.args.recorded.kept c.in-Ok.ensures.same c.planned.ensures.event c.in-Ok.ensures.room c.requires.recorded c.in-Ok.ensures.changes

pub returns-in-Ok-clause-rows : goal.returns-in-Ok-clause-rows
returns-in-Ok-clause-rows g c =
    planned_keeps _ _ _ _ _ _ _ _ c.in-Ok.ensures.same c.planned.ensures.changes c.in-Ok.ensures.rows refl (returns-in-Ok-clause-stepped g c) refl c.requires.fits c.content-content.ensures.sound (subst (λ (h : Held). InBounds h.state) c.content-content.ensures.value c.holds.ensures.bounds)

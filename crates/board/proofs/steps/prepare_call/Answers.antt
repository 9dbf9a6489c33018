use Rattle.std.proofs.Common.{ap, subst, ◌∙◌}
use Rattle.asks.proofs.AskForms.{call_from_forms}
use Rattle.desk_state.specs.Contents.{Held}
use Rattle.desk_state.specs.Decide.{decide}
use Rattle.desk_state.specs.Holds.{Holds}
use Rattle.desk_state.specs.Sound.{InBounds}
use Rattle.board.proofs.Counted.{both_counted}
use Rattle.board.proofs.Kept.{effect_of, effect_may}
use Rattle.board.proofs.steps.prepare_call.Goals as goal

pub decide-requires : goal.decide-requires
decide-requires g c = record { call = call_from_forms _ c.requires.call.ask }

pub prepare_entered-requires-clause-fits : goal.prepare_entered-requires-clause-fits
prepare_entered-requires-clause-fits g c =
    effect_of c.args.held.now.state c.args.call.now _ _ _ c.in-Ok-Do.field-0-is
    (c.in-Ok-Do.ensures.value ∙ ap (λ (h : Held). decide h.state c.args.call.now) c.content-content.ensures.value) c.content-content.ensures.sound
    (subst (λ (h : Held). InBounds h.state) c.content-content.ensures.value c.holds.ensures.bounds) c.requires.call

pub prepare_entered-requires-clause-may : goal.prepare_entered-requires-clause-may
prepare_entered-requires-clause-may g c =
    effect_may c.args.held.now.state c.args.call.now _ _ _ c.in-Ok-Do.field-0-is
    (c.in-Ok-Do.ensures.value ∙ ap (λ (h : Held). decide h.state c.args.call.now) c.content-content.ensures.value) c.content-content.ensures.sound
    (subst (λ (h : Held). Holds h.state) c.content-content.ensures.value c.holds.ensures) c.requires.call c.in-Ok-Do.ensures.read

pub returns-in-Ok-Do-clause-steps : goal.returns-in-Ok-Do-clause-steps
returns-in-Ok-Do-clause-steps g c =
    both_counted c.args.held.now.state c.args.call.now _ _ _ _ _ _ c.in-Ok-Do.field-0-is
    (c.in-Ok-Do.ensures.value ∙ ap (λ (h : Held). decide h.state c.args.call.now) c.content-content.ensures.value) c.content-content.ensures.sound
    (subst (λ (h : Held). InBounds h.state) c.content-content.ensures.value c.holds.ensures.bounds) c.requires.call c.in-Ok-Do.ensures.steps
    c.prepare_entered.ensures.steps

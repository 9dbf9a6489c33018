use Rattle.std.proofs.Common.{[], Ok, Err, ap, refl, subst}
use Rattle.turn_lock.specs.Passes.{pass_seen}
use Rattle.connections.specs.declared.answers.Unanswered.TheVariants.{OutOfMemory as NoMemory}
use Rattle.service.specs.Connections.{wants_call}
use Rattle.service.specs.Looks.{LooksOnce}
use Rattle.service.proofs.TurningLaws.{call_fails, page_responds}
use Rattle.service.proofs.turns.respond_with_page.Goals as goal

pub returns-in-Ok-page_shown-clause-responds : goal.returns-in-Ok-page_shown-clause-responds
returns-in-Ok-page_shown-clause-responds g c =
    let once = subst (LooksOnce _ _ _ _ _) c.in-Ok.is c.look_in_turn-looked.ensures.comes in
    let shown = c.in-Ok-page_shown.ensures.shown in
    page_responds g.S.Surface.pages g.A.Opened.desk.opening g.A.Opened.clock.dial c.args.lane (pass_seen c.args.pass) (pass_seen c.look_in_turn-looked.result.1) c.args.wire.now c.args.page once.0 shown.0 shown.1 c.in-Ok.gauges (Ok c.in-Ok-page_shown.response)
    c.requires.asked once.1 once.2 shown.2 tt

pub returns-in-Err-page_shown-clause-responds : goal.returns-in-Err-page_shown-clause-responds
returns-in-Err-page_shown-clause-responds g c =
    let once = subst (LooksOnce _ _ _ _ _) c.in-Ok.is c.look_in_turn-looked.ensures.comes in
    page_responds g.S.Surface.pages g.A.Opened.desk.opening g.A.Opened.clock.dial c.args.lane (pass_seen c.args.pass) (pass_seen c.look_in_turn-looked.result.1) c.args.wire.now c.args.page once.0 [] [] c.in-Ok.gauges (Err NoMemory) c.requires.asked once.1 once.2 tt refl

pub returns-in-Err-clause-responds : goal.returns-in-Err-clause-responds
returns-in-Err-clause-responds g c =
    let once = subst (LooksOnce _ _ _ _ _) c.in-Err.is c.look_in_turn-looked.ensures.comes in
    call_fails g.S.Surface.pages g.A.Opened.desk.opening _ _ _ _ c.args.wire.now c.in-Err.why (ap wants_call c.requires.asked) once

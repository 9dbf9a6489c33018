use Rattle.std.proofs.Common.{[], sym, ap, ◌∙◌, subst}
use Rattle.std.proofs.lemmas.Result.{IfOk-weaker}
use Rattle.relief.specs.Handovers.{IsRosterAfter, accepted}
use Rattle.relief.specs.Roster.{desks_in, desks_of, first_roster}
use Rattle.relief.proofs.HandoverLaws.{after_handovers, after_none, same_again}
use Rattle.relief.proofs.roster.Roster.replay.Goals as goal

pub returns-clause-desks : goal.returns-clause-desks
returns-clause-desks c =
    let t = c.args.tables.now in
    let hs = c.args.handovers.now in
    let desks = desks_of t in
    IfOk-weaker c.replayed.result _ _ (λ roster is. ap desks_in is ∙ (after_handovers t hs desks [] (first_roster t) (after_none desks)).desks_are) c.replayed.ensures.value

pub returns-clause-after : goal.returns-clause-after
returns-clause-after c =
    let t = c.args.tables.now in
    let hs = c.args.handovers.now in
    let desks = desks_of t in
    IfOk-weaker c.replayed.result _ _ (λ roster is. subst (IsRosterAfter desks (accepted t (first_roster t) hs)) (sym is)
    (after_handovers t hs desks [] (first_roster t) (after_none desks))) c.replayed.ensures.value

pub returns-clause-again : goal.returns-clause-again
returns-clause-again c = same_again c.args.tables.now c.args.handovers.now (first_roster c.args.tables.now)

use Rattle.std.proofs.Common.{[], sym, ap, ◌∙◌, subst}
use Rattle.std.proofs.lemmas.Result.{IfOk-weaker}
use Rattle.relief.specs.Handovers.{IsRosterAfter}
use Rattle.relief.specs.Roster.{desks_in, desks_of}
use Rattle.relief.proofs.HandoverLaws.{after_none}
use Rattle.relief.proofs.LineLaws.{own_desks}
use Rattle.relief.proofs.roster.Roster.new.Goals as goal

pub returns-clause-desks : goal.returns-clause-desks
returns-clause-desks c =
    let desks = desks_of c.args.tables.now in
    IfOk-weaker c.first.result _ _ (λ roster is. ap desks_in is ∙ own_desks desks) c.first.ensures.value

pub returns-clause-after : goal.returns-clause-after
returns-clause-after c =
    let desks = desks_of c.args.tables.now in
    IfOk-weaker c.first.result _ _ (λ roster is. subst (IsRosterAfter desks []) (sym is) (after_none desks)) c.first.ensures.value

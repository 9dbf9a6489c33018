use Rattle.std.proofs.Common.{◌++◌, ◌∷◌, [], refl, sym, ap, ◌∙◌, subst}
use Rattle.relief.specs.declared.handover.Handover.TheVariants.{Offer}
use Rattle.relief.specs.Handovers.{IsRosterAfter}
use Rattle.relief.specs.Roster.{desks_in, offered_to, with_line}
use Rattle.relief.proofs.HandoverLaws.{after_offer}
use Rattle.relief.proofs.LineLaws.{same_desks}
use Rattle.relief.proofs.PlaceLaws.{changed_there}
use Rattle.relief.proofs.roster.Roster.offer.Goals as goal

pub returns-clause-ok : goal.returns-clause-ok
returns-clause-ok c =
    let a = c.args in
    changed_there (offered_to c.in_ok-to.to) a.desk.now c.deref.result.now c.self.inside.lines.items a.self.now c.in-Some.place c.index_mut.result.now
    c.deref.ensures.value c.self.view_is c.in-Some.ensures.some c.index_mut.ensures.value
    ∙ ap (λ to. with_line (offered_to to) a.desk.now a.self.now) (c.in_ok-to.ensures {u = tt})

pub returns-clause-desks : goal.returns-clause-desks
returns-clause-desks c = ap desks_in (returns-clause-ok c) ∙ same_desks (offered_to c.args.to.now) (λ line. refl) c.args.desk.now c.args.self.now

pub returns-clause-after : goal.returns-clause-after
returns-clause-after c = λ desks made follows.
    let a = c.args in
    subst (IsRosterAfter desks (made ++ Offer a.actor.now a.desk.now a.to.now ∷ [])) (sym (returns-clause-ok c))
    (after_offer a.actor.now a.desk.now a.to.now desks made a.self.now follows)

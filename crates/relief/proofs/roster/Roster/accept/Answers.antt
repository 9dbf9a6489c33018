use Rattle.std.proofs.Common.{◌++◌, ◌∷◌, [], refl, sym, ap, ◌∙◌, subst}
use Rattle.relief.specs.declared.handover.Handover.TheVariants.{Accept}
use Rattle.relief.specs.Handovers.{IsRosterAfter}
use Rattle.relief.specs.Roster.{desks_in, taken_by, with_line}
use Rattle.relief.proofs.HandoverLaws.{after_acceptance}
use Rattle.relief.proofs.LineLaws.{same_desks}
use Rattle.relief.proofs.PlaceLaws.{changed_there}
use Rattle.relief.proofs.roster.Roster.accept.Goals as goal

pub returns-clause-ok : goal.returns-clause-ok
returns-clause-ok c =
    let a = c.args in
    changed_there (taken_by c.in_ok-sitter.sitter) a.desk.now c.deref.result.now c.self.inside.lines.items a.self.now c.in-Some.place c.index_mut-line.result.now
    c.deref.ensures.value c.self.view_is c.in-Some.ensures.some c.index_mut-line.ensures.value
    ∙ ap (λ sitter. with_line (taken_by sitter) a.desk.now a.self.now) (c.in_ok-sitter.ensures {u = tt})

pub returns-clause-desks : goal.returns-clause-desks
returns-clause-desks c = ap desks_in (returns-clause-ok c) ∙ same_desks (taken_by c.args.actor.now) (λ line. refl) c.args.desk.now c.args.self.now

pub returns-clause-after : goal.returns-clause-after
returns-clause-after c = λ desks made follows.
    let a = c.args in
    subst (IsRosterAfter desks (made ++ Accept a.actor.now a.desk.now ∷ [])) (sym (returns-clause-ok c))
    (after_acceptance a.actor.now a.desk.now desks made a.self.now follows)

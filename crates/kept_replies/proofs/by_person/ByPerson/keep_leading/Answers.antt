use Rattle.std.proofs.Common.{ap, ◌∙◌, filter}
use Rattle.kept_replies.specs.ByPerson.{keys_under, place_of}
use Rattle.kept_replies.specs.Index.{leads_to}
use Rattle.kept_replies.proofs.SetLaws.{kept_in}
use Rattle.kept_replies.proofs.PersonLaws.{kept_holds}
use Rattle.kept_replies.proofs.by_person.ByPerson.keep_leading.Goals as goal

pub invariant_of-self : goal.invariant_of-self
invariant_of-self c =
    kept_holds (leads_to c.args.kept.now.list) _ _ c.self.inside.sets.items c.keep_all.new.sets.items _ _ _ _ _ _ _ c.keep_all.ensures.kept c.keep_all.ensures.many c.keep_all.ensures.capacity c.self.invariant

pub returns-clause-under : goal.returns-clause-under
returns-clause-under c m =
    kept_in (leads_to c.args.kept.now.list) c.self.inside.sets.items c.keep_all.new.sets.items c.keep_all.ensures.kept (place_of c.self.inside.places.entries m)
    ∙ ap (λ s. filter (leads_to c.args.kept.now.list) (keys_under s m)) c.self.view_is

use Rattle.std.proofs.Common.{ap, ◌∙◌}
use Rattle.kept_replies.specs.ByPerson.{keys_under}
use Rattle.kept_replies.proofs.SetLaws.{put_under}
use Rattle.kept_replies.proofs.PersonLaws.{put_holds}
use Rattle.kept_replies.proofs.by_person.ByPerson.put_reserved.Goals as goal

pub invariant_of-self : goal.invariant_of-self
invariant_of-self c =
    put_holds _ _ c.place_for-place.new.sets.items c.put_at.new.sets.items _ _ _ c.args.key c.place_for-place.result
    c.place_for-place.ensures.place c.place_for-place.ensures.within c.place_for-place.ensures.have c.place_for-place.ensures.empty c.put_at.ensures

pub returns : goal.returns
returns c =
    put_under c.args.key c.place_for-place.result c.place_for-place.new.sets.items c.put_at.new.sets.items c.place_for-place.new.places.entries (keys_under c.args.self.now)
    c.put_at.ensures c.place_for-place.ensures.place (λ m. c.place_for-place.ensures.under m ∙ ap (λ s. keys_under s m) c.self.view_is)

use Rattle.std.proofs.Common.{◌∙◌, ap, sym, subst}
use Rattle.kept_replies.specs.Requests.{floor_at, IsToldOf}
use Rattle.kept_replies.proofs.AskedLaws.{told_of}
use Rattle.kept_replies.proofs.replies.Replies.floor_at.Goals as goal

pub floor_at-requires : goal.floor_at-requires
floor_at-requires c = rw c.as_slice.ensures c.self.invariant.floors_rise

pub returns-clause-value : goal.returns-clause-value
returns-clause-value c = c.floor_at.ensures ∙ ap (floor_at c.args.actor.now) c.as_slice.ensures ∙ ap (λ s. floor_at c.args.actor.now s.floors) c.self.view_is

pub returns-clause-told : goal.returns-clause-told
returns-clause-told c =
    let floors = c.args.self.now.floors in
    subst (IsToldOf c.args.actor.now floors)
    (sym (c.floor_at.ensures ∙ ap (floor_at c.args.actor.now) c.as_slice.ensures ∙ ap (λ s. floor_at c.args.actor.now s.floors) c.self.view_is)) (told_of c.args.actor.now floors)

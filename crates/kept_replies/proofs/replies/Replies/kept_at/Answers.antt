use Rattle.std.proofs.Common.{◌∙◌, ap, sym, subst}
use Rattle.kept_replies.specs.Requests.{kept_at, IsFoundFor}
use Rattle.kept_replies.proofs.AskedLaws.{found_for}
use Rattle.kept_replies.proofs.replies.Replies.kept_at.Goals as goal

pub returns-clause-value : goal.returns-clause-value
returns-clause-value c = c.kept_at.ensures ∙ ap (λ s. kept_at c.args.actor.now c.args.number s.list) c.self.view_is

pub returns-clause-found : goal.returns-clause-found
returns-clause-found c =
    let list = c.args.self.now.list in
    subst (IsFoundFor c.args.actor.now c.args.number list) (sym (c.kept_at.ensures ∙ ap (λ s. kept_at c.args.actor.now c.args.number s.list) c.self.view_is)) (found_for c.args.actor.now c.args.number list)

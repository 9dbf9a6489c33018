use Rattle.std.proofs.Common.{rules}
use Rattle.std.proofs.lemmas.Fn.{always_returns_same}
use Rattle.kept_replies.specs.Requests.{is_since}
use Rattle.kept_replies.proofs.requests.keep_since.Goals as goal

-- the closure tests a reply
pub returns-clause-list : goal.returns-clause-list
returns-clause-list c = c.retain.ensures.list (is_since c.args.before) (always_returns_same _ _ _ (λ a r f called. search rules))

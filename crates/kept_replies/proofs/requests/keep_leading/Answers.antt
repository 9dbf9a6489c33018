use Rattle.std.proofs.Common.{rules}
use Rattle.std.proofs.lemmas.Fn.{always_returns_same}
use Rattle.kept_replies.specs.Index.{leads_to}
use Rattle.kept_replies.proofs.requests.keep_leading.Goals as goal

-- the closure tests a key
pub returns-clause-keys : goal.returns-clause-keys
returns-clause-keys c = c.retain.ensures.keys (leads_to c.args.kept.now.list) (always_returns_same _ _ _ (λ a r f called. search rules))

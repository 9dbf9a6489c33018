use Rattle.std.proofs.Common.{rules}
use Rattle.std.proofs.lemmas.Fn.{always_returns_same}
use Rattle.facts.specs.Index.{leads_to}
use Rattle.facts.proofs.same.keep_leading.Goals as goal

-- the closure tests a key
pub returns : goal.returns
returns c = c.retain.ensures.keys (leads_to c.args.reports.now) (always_returns_same _ _ _ (λ a r f called. search (rules, c.requires)))

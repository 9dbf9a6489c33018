use Rattle.facts.proofs.SameLaws.{keys_listed}
use Rattle.facts.proofs.indexing.keys_of_reports.Goals as goal

pub returns : goal.returns
returns c = keys_listed c.args.held.now _ _ c.in_ok-keys.ensures c.from_vec.ensures

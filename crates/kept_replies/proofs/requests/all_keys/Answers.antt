use Rattle.kept_replies.proofs.HeldLaws.{keys_listed}
use Rattle.kept_replies.proofs.requests.all_keys.Goals as goal

pub returns : goal.returns
returns c = keys_listed c.args.kept.now _ _ c.in_ok-keys.ensures c.from_vec.ensures

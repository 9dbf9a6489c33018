use Rattle.deferrals.proofs.TailLaws.{keys_listed}
use Rattle.deferrals.proofs.by_tail.all_keys.Goals as goal

pub returns : goal.returns
returns c = keys_listed _ _ c.args.held.now c.in_ok-listed_keys.ensures c.from_vec.ensures

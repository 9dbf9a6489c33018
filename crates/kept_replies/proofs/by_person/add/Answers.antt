use Rattle.std.proofs.Common.{rules}
use Rattle.kept_replies.proofs.SetLaws.{added_last, added_same}
use Rattle.kept_replies.proofs.by_person.add.Goals as goal

pub returns-clause-last : goal.returns-clause-last
returns-clause-last c = added_last c.args.sets.now.items _ c.in-Some.set c.len-place.result c.push_reserved.ensures.items (search rules) (search rules)

pub returns-clause-same : goal.returns-clause-same
returns-clause-same c = added_same c.args.sets.now.items _ c.in-Some.set c.push_reserved.ensures.items

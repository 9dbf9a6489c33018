use Rattle.compact_json.proofs.KeyLaws.{next_of}
use Rattle.compact_json.proofs.keys.Keys.next.Goals as goal

pub returns : goal.returns
returns c =
    let self = c.args.self.now in
    next_of self.started self.last.now self.members.now c.in_ok-key.key.now c.in_ok-key.ensures

use Rattle.std.proofs.Common.{◌≡◌, drop}
use Rattle.std.specs.Map.{keys_of}
use Rattle.kept_replies.specs.Index.{first_to}
use Rattle.kept_replies.proofs.requests.first_to.Given as goal

abbrev pub invariant-loop-pair : goal.invariant-loop-pair
invariant-loop-pair l = first_to l.actor l.mark l.number l.kept.list (keys_of (drop l.pair-index l.keys)) ≡ first_to l.actor l.mark l.number l.kept.list (keys_of l.keys)

use Rattle.std.proofs.Common.{◌≡◌, ◌++◌, map, drop}
use Rattle.kept_replies.specs.Index.{entry_of}
use Rattle.kept_replies.proofs.requests.listed_keys.Given as goal

abbrev pub invariant-loop-reply : goal.invariant-loop-reply
invariant-loop-reply l = l.keys.items ++ map entry_of (drop l.reply-index l.kept) ≡ map entry_of l.kept

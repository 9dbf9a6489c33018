use Rattle.std.proofs.Common.{◌≡◌, ◌||◌, drop}
use Rattle.std.specs.Map.{keys_of}
use Rattle.desk_io.specs.Keys.{is_held}
use Rattle.kept_replies.specs.ByPerson.{keys_under}
use Rattle.kept_replies.specs.Index.{Key, key_cmp}
use Rattle.kept_replies.proofs.by_person.ByPerson.from_keys.Given as goal

abbrev pub invariant-loop-pair : goal.invariant-loop-pair
invariant-loop-pair l =
    (q : Key) → (is_held key_cmp q (keys_under l.made q.0) || is_held key_cmp q (keys_of (drop l.pair-index l.keys))) ≡ is_held key_cmp q (keys_of l.keys)

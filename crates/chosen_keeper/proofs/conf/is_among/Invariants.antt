use Rattle.std.proofs.Common.{◌≡◌, drop}
use Rattle.chosen_keeper.specs.Conf.{is_among}
use Rattle.chosen_keeper.proofs.conf.is_among.Given as goal

abbrev pub invariant-loop-key : goal.invariant-loop-key
invariant-loop-key l = is_among (drop l.key-index l.keys) l.word ≡ is_among l.keys l.word

use Rattle.std.proofs.Common.{◌≡◌, drop}
use Rattle.chosen_keeper.specs.Conf.{keys_fault}
use Rattle.chosen_keeper.proofs.conf.keys_fault.Given as goal

abbrev pub invariant-loop-key : goal.invariant-loop-key
invariant-loop-key l = keys_fault (drop l.key-index l.keys) l.words ≡ keys_fault l.keys l.words

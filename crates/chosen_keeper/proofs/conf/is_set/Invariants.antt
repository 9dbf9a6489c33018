use Rattle.std.proofs.Common.{◌≡◌, drop}
use Rattle.chosen_keeper.specs.Conf.{is_set}
use Rattle.chosen_keeper.proofs.conf.is_set.Given as goal

abbrev pub invariant-loop-word : goal.invariant-loop-word
invariant-loop-word l = is_set l.key (drop l.word-index l.words) ≡ is_set l.key l.words

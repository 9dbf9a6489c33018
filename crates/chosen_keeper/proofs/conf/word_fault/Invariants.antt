use Rattle.std.proofs.Common.{◌≡◌, length}
use Rattle.chosen_keeper.specs.Conf.{word_fault}
use Rattle.chosen_keeper.proofs.conf.word_fault.Given as goal

abbrev pub invariant-loop-left : goal.invariant-loop-left
invariant-loop-left l = word_fault l.left ≡ word_fault l.words

abbrev pub decreases-loop-left : goal.decreases-loop-left
decreases-loop-left l = length l.left

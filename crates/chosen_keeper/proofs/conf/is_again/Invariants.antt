use Rattle.std.proofs.Common.{◌≡◌, drop}
use Rattle.chosen_keeper.specs.Conf.{is_again}
use Rattle.chosen_keeper.proofs.conf.is_again.Given as goal

abbrev pub invariant-loop-other : goal.invariant-loop-other
invariant-loop-other l = is_again l.word (drop l.other-index l.others) ≡ is_again l.word l.others

use Rattle.std.proofs.Common.{◌≡◌, drop}
use Rattle.chosen_keeper.specs.Conf.{set_to}
use Rattle.chosen_keeper.proofs.conf.set_to.Given as goal

abbrev pub invariant-loop-word : goal.invariant-loop-word
invariant-loop-word l = set_to l.key (drop l.word-index l.words) ≡ set_to l.key l.words

use Rattle.std.proofs.Common.{◌≡◌, drop}
use Rattle.words.specs.Words.{command_among}
use Rattle.words.proofs.asked.command_among.Given as goal

abbrev pub invariant-loop-command : goal.invariant-loop-command
invariant-loop-command l = command_among (drop l.command-index l.commands) l.name ≡ command_among l.commands l.name

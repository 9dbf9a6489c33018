use Rattle.std.proofs.Common.{◌≡◌, drop}
use Rattle.clap.specs.Simple.{app_of}
use Rattle.words.specs.Names.{with_commands}
use Rattle.words.proofs.reading.with_commands.Given as goal

abbrev pub invariant-loop-command : goal.invariant-loop-command
invariant-loop-command l = with_commands (drop l.command-index l.commands) (app_of l.desk) ≡ with_commands l.commands (app_of l.fn.desk)

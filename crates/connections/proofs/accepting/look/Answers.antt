use Rattle.std.proofs.Common.{◌∙◌}
use Rattle.turn_lock.specs.Passes.{pass_seen, pass_splits, turn_taken}
use Rattle.connections.proofs.RoundLaws.{none_from}
use Rattle.connections.proofs.accepting.look.Goals as goal

pub returns-clause-none : goal.returns-clause-none
returns-clause-none g c =
    let taken = c.take-turn.ensures in
    none_from g.T.Listed.bears (pass_splits c.args.pass) (turn_taken c.take-turn.result) (pass_seen c.give.result) (c.give.ensures.seen ∙ taken.taken) (taken.given c.requires.lock.1)

use Rattle.std.proofs.Common.{◌≡◌, ap, sym, subst, ◌∙◌}
use Rattle.turn_lock.specs.Passes.{pass_numbers, pass_seen, pass_splits, turn_taken}
use Rattle.connections.specs.Rounds.{IsLast}
use Rattle.workers.proofs.staying.finish.Goals as goal

pub returns-clause-last : goal.returns-clause-last
returns-clause-last g c =
    let taken = c.take-turn.ensures in
    let same : g.T.Listed.list c.finish-value.result ≡ turn_taken c.take-turn.result = ap g.T.Listed.list c.finish-value.ensures ∙ taken.taken in
    subst (IsLast g.T.Listed.bears (pass_seen c.args.pass) (pass_numbers c.args.pass) (pass_splits c.args.pass)) (sym same) record { begins = taken.seen; adds = taken.own; above = taken.given c.requires.lock.1 }

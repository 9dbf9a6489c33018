use Rattle.std.proofs.Common.{◌≡◌, ap, subst, sym, ◌∙◌}
use Rattle.turn_lock.specs.Passes.{pass_numbers, pass_seen, pass_splits, turn_taken}
use Rattle.connections.specs.Rounds.{IsLast}
use Rattle.connections.proofs.RunLaws.{run_none}
use Rattle.connections.proofs.accepting.serve_all.Goals as goal

pub returns-clause-served : goal.returns-clause-served
returns-clause-served g c =
    let pass = c.serve_rounds-between.result.0.pass in
    let taken = c.take-turn.ensures in
    let same : g.T.Listed.list c.finish-value.result ≡ turn_taken c.take-turn.result = ap g.T.Listed.list c.finish-value.ensures ∙ taken.taken in
    c.serve_rounds-between.ensures.run (g.T.Listed.list c.finish-value.result)
    (subst (IsLast g.T.Listed.bears (pass_seen pass) (pass_numbers pass) (pass_splits pass)) (sym same)
    (record { begins = taken.seen; adds = taken.own; above = taken.given c.serve_rounds-between.ensures.pass.1 }))

pub returns-in_default-clause-served : goal.returns-in_default-clause-served
returns-in_default-clause-served g c = run_none g.T.Listed.bears g.W.Serving.says (g.D.Door.seen c.args.door) (g.T.Listed.list c.args.value) c.args.port c.args.connections c.requires.empty

pub returns-in-Err-clause-served : goal.returns-in-Err-clause-served
returns-in-Err-clause-served g c =
    run_none g.T.Listed.bears g.W.Serving.says (g.D.Door.seen c.args.door) (g.T.Listed.list c.in-Err.field-0.value) c.args.port c.args.connections (ap g.T.Listed.list c.in-Err.ensures.err ∙ c.requires.empty)

use Rattle.std.proofs.Common.{ap, ◌∙◌}
use Rattle.workers.proofs.StayLaws.{out_of_memory}
use Rattle.workers.proofs.staying.stay.Goals as goal

pub returns-in-Err-clause-stayed : goal.returns-in-Err-clause-stayed
returns-in-Err-clause-stayed g c =
    out_of_memory g.T.Listed.bears g.W.Serving.says g.B.Beside.does (g.D.Door.seen c.args.door) (g.T.Listed.list c.in-Err.field-0.value) c.args.port c.args.workers
    (ap g.T.Listed.list c.in-Err.ensures.err ∙ c.requires.empty)

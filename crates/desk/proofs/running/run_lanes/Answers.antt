use Rattle.desk.specs.Keeping.{kept_at}
use Rattle.desk.proofs.Positions.{whole_history}
use Rattle.desk.proofs.running.run_lanes.Goals as goal

pub returns-clause-history : goal.returns-clause-history
returns-clause-history g c =
    let seen = g.K.Keeper.seen in
    let ran = c.run_from in
    whole_history ran.result.whole (kept_at (seen c.args.desk.keeper)) (kept_at (seen ran.result.desk.keeper)) c.args.desk.board.opening c.args.desk.board.state ran.result.desk.board.state ran.result.lanes.items
    c.now.ensures.board ran.ensures.merged ran.ensures.done

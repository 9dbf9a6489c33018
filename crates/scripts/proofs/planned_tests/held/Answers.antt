use Rattle.scripts.proofs.PlannedHeld.{found_id, found_moment, found_plan}
use Rattle.scripts.proofs.planned_tests.held.Goals as goal

pub returns-clause-id : goal.returns-clause-id
returns-clause-id c = found_id c.args.id c.args.board.now.state.releases _ c.release.ensures

pub returns-clause-plan : goal.returns-clause-plan
returns-clause-plan c = found_plan _ c.args.board.now.state c.args.id _ c.release.ensures c.now.ensures.board

pub returns-clause-moment : goal.returns-clause-moment
returns-clause-moment c = found_moment _ c.args.board.now.state c.args.id _ c.release.ensures c.now.ensures.board

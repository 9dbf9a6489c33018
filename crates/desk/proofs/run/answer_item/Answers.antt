use Rattle.desk.proofs.Choices.{bad_answered}
use Rattle.desk.proofs.run.answer_item.Goals as goal

pub returns-in-Bad-clause-given : goal.returns-in-Bad-clause-given
returns-in-Bad-clause-given g c =
    bad_answered _ (g.K.Keeper.seen c.args.desk.now.keeper) c.args.lane c.args.desk.now.board.state c.args.item.now _ c.in-Bad.is c.bad_line.ensures.outcome
    c.bad_line.ensures.ticked c.bad_line.ensures.called

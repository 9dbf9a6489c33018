use Rattle.commands.proofs.Opened.{asked_to_open}
use Rattle.commands.specs.Seen.{lent}
use Rattle.commands.specs.Working.{Explains}
use Rattle.commands.proofs.commands.explain.Goals as goal

pub returns-clause-asked : goal.returns-clause-asked
returns-clause-asked g c =
    let over = c.open_over in
    let keeper = lent g.K.Keeper.seen c.args.provided.keeper over.result.keeper in
    asked_to_open c.args.provided.tables (Explains c.args.release) keeper over.result.board over.result.answer over.ensures.opens over.ensures.asked

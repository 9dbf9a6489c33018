use Rattle.std.proofs.Common.{refl}
use Rattle.commands.proofs.Opened.{still}
use Rattle.commands.proofs.works.ExplainingWorkSteps.work.Goals as goal

pub returns-clause-does : goal.returns-clause-does
returns-clause-does g c = λ less under. (c.explain.ensures, refl)

pub returns-clause-on : goal.returns-clause-on
returns-clause-on g c = still g.K.Keeper.seen g.B.Bell.seen c.args.desk.now

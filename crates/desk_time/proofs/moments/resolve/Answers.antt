use Rattle.desk_time.proofs.DayNamed.{resolves}
use Rattle.desk_time.proofs.moments.resolve.Goals as goal

pub returns-clause-exact : goal.returns-clause-exact
returns-clause-exact c = resolves c.args.first_day c.args.day c.args.hour c.args.minute c.moment_of.result c.requires.high c.moment_of.ensures.value

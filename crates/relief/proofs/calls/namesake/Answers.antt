use Rattle.relief.proofs.CallLaws.{nobody}
use Rattle.relief.proofs.calls.namesake.Goals as goal

pub unreachable-requires : goal.unreachable-requires
unreachable-requires c = nobody c.args.tables.now c.args.desk.now c.requires (c.in-None.ensures {u = tt}).value

use Rattle.commands.proofs.InputLaws.{not_plan, tested_states}
use Rattle.commands.proofs.inputs.plan_in.Goals as goal

pub returns-in-Ok-clause-states : goal.returns-in-Ok-clause-states
returns-in-Ok-clause-states c =
    let is = c.tested.ensures in
    tested_states c.args.tables.now c.args.name.now c.args.text.now c.in-Ok.plan c.tested.result c.in-Ok.ensures.reads is.same is.valid is.fails is.bad

pub returns-in-Err-clause-states : goal.returns-in-Err-clause-states
returns-in-Err-clause-states c = not_plan c.args.tables.now c.args.name.now c.args.text.now c.in-Err.fault c.in-Err.ensures.reads

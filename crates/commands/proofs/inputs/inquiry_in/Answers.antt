use Rattle.std.proofs.Common.{map, string_bytes, subst}
use Rattle.commands.specs.Inputs.{StatesPlan}
use Rattle.commands.proofs.InputLaws.{bad_first, bad_second}
use Rattle.commands.proofs.inputs.inquiry_in.Goals as goal

pub inquiry_on-requires-clause-states : goal.inquiry_on-requires-clause-states
inquiry_on-requires-clause-states c = subst (λ x. StatesPlan c.args.tables.now x c.in-Ok.plan) c.first_of.ensures c.in-Ok.ensures.states

pub returns-in-Ok-clause-states : goal.returns-in-Ok-clause-states
returns-in-Ok-clause-states c = bad_second c.args.tables.now (map string_bytes c.args.names.now) c.args.texts.now c.inquiry_on.result c.inquiry_on.ensures.states

pub returns-in-Err-clause-states : goal.returns-in-Err-clause-states
returns-in-Err-clause-states c =
    bad_first c.args.tables.now (map string_bytes c.args.names.now) c.args.texts.now c.first_name.result.now c.first_of.result.now c.in-Err.fault c.first_name.ensures c.first_of.ensures c.in-Err.ensures.states

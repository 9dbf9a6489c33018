use Rattle.rules.proofs.DueMinutes.{made_due}
use Rattle.rules.proofs.due.minutes_in.Goals as goal

pub returns : goal.returns
returns c = made_due c.args.plan.now c.args.phase c.args.settings _ _ _ c.in_ok-push_legs.ensures c.new-minutes.ensures c.as_slice.ensures

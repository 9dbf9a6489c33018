use Rattle.std.proofs.Common.{rules, ap, ◌∙◌}
use Rattle.turn_lock.proofs.PassLaws.{joins}
use Rattle.turn_lock.proofs.StepLaws.{compares}
use Rattle.turn_lock.proofs.lock.TurnLock.join.Goals as goal

pub join_seat-requires : goal.join_seat-requires
join_seat-requires g c = (search rules, search rules, c.args.other.idle.0, search rules, joins _ _ _ _ _ _ c.args.pass.now.idle.1 c.args.other.idle.1)

pub load-requires : goal.load-requires
load-requires g c = (search rules, search rules, compares _ _ _ _ _ (ap (λ m. m.0.stage) c.join_seat.ensures.2 ∙ c.args.pass.now.idle.1))

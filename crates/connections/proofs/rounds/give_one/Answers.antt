use Rattle.connections.proofs.RoundLaws.{one_given, one_lost}
use Rattle.connections.proofs.rounds.give_one.Goals as goal

pub returns-in-Ok-clause-given : goal.returns-in-Ok-clause-given
returns-in-Ok-clause-given g c = one_given _ _ _ _ _ _ _ c.in-Ok.ensures.told c.in-Ok.ensures.passed c.after.ensures

pub returns-in-Err-clause-given : goal.returns-in-Err-clause-given
returns-in-Err-clause-given g c = one_lost _ _ _ _ _ _ _ c.in-Err.ensures.told c.in-Err.ensures.passed c.after-in-Err.ensures
